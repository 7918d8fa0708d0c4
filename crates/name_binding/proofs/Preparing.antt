-- The identifiers of a file are interned, and its dictionary is built over their symbols.
use Rattle.std.specs.Prelude.{Result, Ok, Err}
use mathlib.Core.Path.{◌≡◌, refl, sym, ap, subst, ◌∙◌}
use mathlib.Core.Bool.{Bool, true, false, false≢true}
use mathlib.Core.List.{List}
use Prim.Native.Nat.{ℕ, zero, suc, ◌≤◌}
use native.Mathlib.Omega.{arith}
use borrow.Author.Tests.{leb-true}
use lib.Dec.{leb}
use lib.ListN.{length, take, length-map, length-take}
use Rattle.express.specs.Syntax.Tree.{Table}
use Rattle.express.specs.Tokens.Spelling.{symbol_of, symbols_of}
use Rattle.relations.specs.Select.{span}
use Rattle.relations.proofs.Select.{and_fst, and_snd}
use Rattle.index.specs.Room.{done}
use Rattle.symbols.specs.Interning.{Interns}
use Rattle.index.specs.declared.Short.{Short}
use Rattle.symbols.proofs.Interning.{interned}
use Rattle.scopes.specs.Standing.{table_of}
use Rattle.scopes.specs.Preparation.{Prepares, Refused, Answers}
use Rattle.scopes.specs.declared.dictionary.Unfit.{Unfit}
use Rattle.scopes.proofs.Tables.{columns_of, same_entries, prepared_for}
use Rattle.name_binding.specs.Prepared.{PreparesFile}

pub length_span : (i d : ℕ) → length (span i d) ≡ d
unfolding span
length_span i zero = refl
length_span i (suc d) = ap suc (length_span (suc i) d)

-- a symbol for each token
pub as_many : (src starts lengths terminals : List ℕ) → length (symbols_of src starts lengths terminals) ≡ length starts
unfolding symbols_of
as_many src starts lengths terminals = length-map (span 0 (length starts)) (symbol_of src starts lengths terminals) ∙ length_span 0 (length starts)

-- the columns of a file with its symbols are the table that is asked for
same_columns : (t : Table) {kinds tokens roles symbols : List ℕ} → kinds ≡ t.kinds → tokens ≡ t.tokens → roles ≡ t.roles → symbols ≡ t.symbols →
    table_of kinds tokens roles symbols ≡ columns_of t
same_columns t k n r s = rw (k, n, r, s) refl

module _ {src starts lengths terminals symbols heads links symbols' heads₁ links' : List ℕ} {o : Result (Unit {0}) Short} where
  pub short_prepared :
      {kinds tokens roles keys nodes next : List ℕ} {x : Unfit} → Interns src starts lengths terminals symbols heads links o symbols' heads₁ links' → {e : Short} → o ≡ Err e →
      PreparesFile src starts lengths terminals kinds tokens roles symbols keys nodes heads links next (Err x) symbols' keys nodes heads₁ next
  short_prepared I w = record {
    done = λ e. absurd (false≢true e);
    unfit = λ e t k n r s ok C R. absurd (false≢true (sym (ap done w) ∙ I.answer ∙ ok));
  }

  -- where all symbols are stored, they lie within their column
  pub symbols_fit :
      Interns src starts lengths terminals symbols heads links o symbols' heads₁ links' → o ≡ Ok tt → length symbols' ≡ length symbols → length starts ≤ length symbols'
  symbols_fit I w l =
      let rest = and_snd (leb (length starts) (length lengths)) _ (sym I.answer ∙ ap done w) in
      let fit : length starts ≤ length symbols = leb-true (length starts) (length symbols) (and_fst _ _ rest) in
      omega (arith, fit, l)

  pub symbols_long :
      Interns src starts lengths terminals symbols heads links o symbols' heads₁ links' → o ≡ Ok tt → length symbols' ≡ length symbols →
      length starts ≡ length (take (length starts) symbols')
  symbols_long I w l = omega (arith, symbols_fit I w l, length-take (length starts) symbols')

  -- the symbols of any file with these columns are those that are stored
  columns_are :
      {kinds tokens roles : List ℕ} → Interns src starts lengths terminals symbols heads links o symbols' heads₁ links' → o ≡ Ok tt →
      (t : Table) → kinds ≡ t.kinds → tokens ≡ t.tokens → roles ≡ t.roles → t.symbols ≡ symbols_of src starts lengths terminals →
      table_of kinds tokens roles (take (length starts) symbols') ≡ columns_of t
  columns_are I w t k n q s = same_columns t k n q (interned I (ap done w) ∙ sym s)

  pub file_prepared :
      {kinds tokens roles keys nodes next : List ℕ} {r : Result (Unit {0}) Unfit} {keys' nodes' heads' next' : List ℕ} →
      Interns src starts lengths terminals symbols heads links o symbols' heads₁ links' → o ≡ Ok tt → length heads₁ ≡ length heads →
      Answers (table_of kinds tokens roles (take (length starts) symbols')) keys nodes heads₁ next r keys' nodes' heads' next' →
      PreparesFile src starts lengths terminals kinds tokens roles symbols keys nodes heads links next r symbols' keys' nodes' heads' next'
  file_prepared {keys = keys} {nodes = nodes} {next = next} {r = Ok x} {keys' = keys'} {nodes' = nodes'} {heads' = heads'} {next' = next'} I w h A = record {
    done = λ e t k n q s.
        let B = subst (λ (u : Table). Prepares u keys nodes keys' nodes' heads' next') (columns_are I w t k n q s) A in
        record {
          symbols_are = ap (λ (m : ℕ). take m symbols') (ap length s ∙ as_many src starts lengths terminals) ∙ interned I (ap done w) ∙ sym s;
          prepared = rw (same_entries t) at (prepared_for t B.prepared);
        };
    unfit = λ e. absurd (false≢true e);
  }
  file_prepared {keys = keys} {nodes = nodes} {next = next} {r = Err x} {keys' = keys'} {nodes' = nodes'} {heads' = heads'} {next' = next'} I w h A = record {
    done = λ e. absurd (false≢true e);
    unfit = λ e t k n q s ok C R.
        let B = subst (λ (u : Table). Refused u keys nodes heads₁ next keys' nodes' heads' next') (columns_are I w t k n q s) A in
        B.no (record { few = C.few; tokens = C.tokens; roles = C.roles; inside = C.inside; small = C.small })
        (record {
          keys_room = rw (same_entries t) R.keys_room;
          nodes_room = rw (same_entries t) R.nodes_room;
          heads_room = rw h R.heads_room;
          next_room = rw (same_entries t) R.next_room;
        });
  }

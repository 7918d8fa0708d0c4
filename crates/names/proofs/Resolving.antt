-- The names of a file as a whole: from its dictionary to the answer.
use Rattle.std.specs.Prelude.{Option, Some, None, Result, Ok, Err, IsOk, IsErr, is_none, is_err}
use mathlib.Core.Path.{◌≡◌, refl, sym, ap, subst, ◌∙◌}
use mathlib.Core.Logic.{◌≢◌, by_cases}
use mathlib.Core.Bool.{Bool, true, false, false≢true, true≢false, cond, not}
use mathlib.Core.List.{List, [], map}
use Prim.Native.Nat.{ℕ, zero, suc, ◌+◌, ◌*◌, ◌≤◌, ◌<◌, min}
use native.Mathlib.Omega.{arith}
use native.Mathlib.Decide.{ℕ_discrete}
use borrow.Author.Tests.{eqb-true, eq-eqb, ne_eqb, not-true, not-false}
use lib.ListN.{length, get_or, take, length-map, length-take}
use lib.Seq.{sets, length-sets, take_all, get_or-take, ext_get_or, length-take-le}
use Rattle.columns.proofs.Laws.{take_rows}
use Rattle.ebnf.specs.Rows.{Row}
use Rattle.relations.specs.Select.{span}
use Rattle.express.specs.Tokens.Spelling.{symbols_of}
use Rattle.express.specs.Syntax.Grammar.{file}
use Rattle.express.specs.Syntax.Syntax.{Read}
use Rattle.express.specs.Syntax.Tree.{Table, count}
use Rattle.express.specs.Syntax.Tree as tree
use Rattle.express.specs.Names.Scope.{binding, bindings}
use Rattle.express.specs.Names.Fault as express
use Rattle.scopes.specs.Entries.{Entry, entries, radix}
use Rattle.scopes.specs.Standing.{table_of, Counted, Counting}
use Rattle.scopes.specs.Preparation.{Decides}
use Rattle.scopes.specs.declared.Counts.{Counts}
use Rattle.scopes.specs.declared.dictionary.Unfit as dictionary
use Rattle.preparation.proofs.Preparing.{entries_total, total_small}
use Rattle.scopes.proofs.Tables.{columns_of, counted_for}
use Rattle.faults.specs.Meaning.{number_of, fault_of, is_fine}
use Rattle.faults.specs.declared.Fault.{Fault}
use Rattle.type_names.specs.TypeName.{FileColumns}
use Rattle.name_binding.proofs.Preparing.{as_many, length_span}
use Rattle.name_binding.specs.Prepared.{FilePrepared, PreparesFile}
use Rattle.name_binding.specs.Binding.{NamesBound}
use Rattle.resolutions.specs.Answer.{Narrows, StageRoom, Finishes, answer_to}
use Rattle.names.specs.Resolution.{FileRead, NamesRoom, Resolved, Resolves, BindsPrepared, ResolvesRoles}
use Rattle.resolutions.specs.declared.Refusal.{Refusal}
use Rattle.resolutions.specs.declared.Refusal.TheVariants.{Faulty, Unfit}

-- ---- the columns as a table

abbrev table_with : List ℕ → List ℕ → List ℕ → List ℕ → List ℕ → List ℕ → List ℕ → List ℕ → Table
table_with src starts lengths terminals kinds tokens sizes roles =
    record {
      bytes = src;
      starts = starts;
      lengths = lengths;
      terminals = terminals;
      symbols = symbols_of src starts lengths terminals;
      kinds = kinds;
      tokens = tokens;
      sizes = sizes;
      roles = roles;
    }

same_symbols :
    {src starts lengths terminals kinds tokens sizes roles : List ℕ} {t : Table} → FileRead src starts lengths terminals kinds tokens sizes roles t →
    t.symbols ≡ symbols_of src starts lengths terminals
same_symbols F = F.scanned.symbols_are ∙ rw (F.bytes_are, F.starts_are, F.lengths_are, F.terminals_are) refl

module _ {src starts lengths terminals kinds tokens roles symbols keys nodes heads links next : List ℕ} {p : Result (Unit {0}) dictionary.Unfit} {symbols' keys' nodes' heads' next' : List ℕ}
    (P : PreparesFile src starts lengths terminals kinds tokens roles symbols keys nodes heads links next p symbols' keys' nodes' heads' next') {c : Counts} (C : Counting kinds roles c) where
  -- what is counted is the dictionary of any file with these columns
  counted : (t : Table) → kinds ≡ t.kinds → roles ≡ t.roles → length kinds < radix → Counted t (count t) c
  counted t k o few =
      let D : Counted (columns_of t) (count t) c =
      subst (λ (x : List ℕ). Counted (table_of x t.tokens t.roles t.symbols) (length x) c) k
      (subst (λ (x : List ℕ). Counted (table_of kinds t.tokens x t.symbols) (length kinds) c) o (C.is few t.tokens t.symbols)) in
      counted_for t D

  module _ (q : IsOk p) where
    some_table : Table
    some_table = table_with src starts lengths terminals kinds tokens [] roles

    made : FilePrepared some_table symbols' keys' nodes' heads' next'
    unfolding some_table
    made = P.done q some_table refl refl refl refl

    few : length kinds < radix
    unfolding some_table
    few = made.prepared.consistent.few

    -- as many entries as are counted
    total_of : (t : Table) → kinds ≡ t.kinds → roles ≡ t.roles → c.declarations + c.others ≡ length (entries t)
    total_of t k o = let D = counted t k o few in omega (arith, D.declarations_is, D.others_is, entries_total t)

    total : c.declarations + c.others ≡ length (entries some_table)
    unfolding some_table
    total = total_of some_table refl refl

    -- where the dictionary is made, its parts lie within their columns
    pub keys_fit : c.declarations + c.others ≤ length keys'
    keys_fit = omega (arith, total, ap length made.prepared.keys_is, length-map (entries some_table) (λ (e : Entry). e.key), length-take (length (entries some_table)) keys')

    pub nodes_fit : c.declarations + c.others ≤ length nodes'
    nodes_fit = omega (arith, total, ap length made.prepared.nodes_is, length-map (entries some_table) (λ (e : Entry). e.node), length-take (length (entries some_table)) nodes')

    pub sum_small : c.declarations + c.others < 2 * radix
    unfolding some_table
    sum_small = total_small (counted some_table refl refl few) made.prepared.consistent

    pub symbols_within : length starts ≤ length symbols'
    unfolding some_table
    symbols_within =
        let every = symbols_of src starts lengths terminals in omega (arith, ap length made.symbols_are, length-take (length every) symbols', as_many src starts lengths terminals)

    pub symbols_cut : length starts ≡ length (take (length starts) symbols')
    symbols_cut = omega (arith, symbols_within, length-take (length starts) symbols')

    module _ {sizes : List ℕ} {t : Table} (F : FileRead src starts lengths terminals kinds tokens sizes roles t) where
      of_file : FilePrepared t symbols' keys' nodes' heads' next'
      of_file = P.done q t F.kinds_are F.tokens_are F.roles_are (same_symbols F)

      file_columns : FileColumns t kinds tokens roles (take (length starts) symbols') starts (take (c.declarations + c.others) keys') (take (c.declarations + c.others) nodes') heads' next'
      file_columns = record {
        read = F.read;
        kinds_are = F.kinds_are;
        tokens_are = F.tokens_are;
        roles_are = F.roles_are;
        symbols_are = ap (λ (n : ℕ). take n symbols') (sym (as_many src starts lengths terminals) ∙ ap length (sym (same_symbols F))) ∙ of_file.symbols_are;
        starts_are = F.starts_are;
        prepared = rw (total_of t F.kinds_are F.roles_are) of_file.prepared;
      }

      counted_file : Counted t (count t) c
      counted_file = counted t F.kinds_are F.roles_are few

-- ---- the answer

-- one column over another of its length
sets_over : (l vs : List ℕ) → length vs ≡ length l → sets l 0 vs ≡ vs
sets_over l vs e = sym (take_all (length vs) (sets l 0 vs) (omega (arith, length-sets l 0 vs, e))) ∙ take_rows l vs (omega (arith, e))

as_many_roles : {t : Table} → Read file t → length t.roles ≡ count t
as_many_roles R =
    ap length R.roles ∙ length-map R.rows (λ (r : Row). r.role) ∙ sym (length-map R.rows (λ (r : Row). r.kind)) ∙ sym (ap length R.kinds)

mapped : (g : ℕ → ℕ) (i d n : ℕ) → n < d → get_or (map g (span i d)) n 0 ≡ g (i + n)
unfolding span
mapped g i zero n l = absurd (omega arith)
mapped g i (suc d) zero l = let e : i ≡ i + 0 = omega arith in ap g e
mapped g i (suc d) (suc n) l = let e : suc i + n ≡ i + suc n = omega arith in mapped g (suc i) d n (omega arith) ∙ ap g e

mapped_all : (g : ℕ → ℕ) (k n : ℕ) → n < k → get_or (map g (span 0 k)) n 0 ≡ g n
mapped_all g k n l = let e : 0 + n ≡ n = omega arith in mapped g 0 k n l ∙ ap g e

-- each node's binding, in order
bound_all : (t : Table) (bound : List ℕ) → count t ≤ length bound → ((n : ℕ) → n < count t → get_or bound n 0 ≡ binding t n) → take (count t) bound ≡ bindings t
unfolding bindings
bound_all t bound l h =
    let long : length (map (binding t) (tree.nodes t)) ≡ count t = length-map (tree.nodes t) (binding t) ∙ length_span 0 (count t) in
    ext_get_or 0 (take (count t) bound) (map (binding t) (tree.nodes t)) (length-take-le (count t) bound l ∙ sym long)
    (λ n m.
    let w : n < count t = omega (arith, m, length-take-le (count t) bound l) in
    get_or-take (count t) bound n 0 w ∙ h n w ∙ sym (mapped_all (binding t) (count t) n w))

abbrev is_unfit : Result (Unit {0}) Refusal → Bool
is_unfit (Ok x) = false
is_unfit (Err (Faulty f)) = false
is_unfit (Err Unfit) = true

-- the answer to no fault, and to one
answer_fine : (f : Option Fault) → is_fine f ≡ true → answer_to f ≡ Ok tt
answer_fine None e = refl
answer_fine (Some x) e = ap (λ b. cond b (Ok tt) (Err (Faulty x))) e

at_fault : (f : Option Fault) → is_fine f ≡ false → (x : Fault) × (f ≡ Some x) × (answer_to f ≡ Err (Faulty x)) × (number_of x.reply ≢ 0)
at_fault None e = absurd (true≢false e)
at_fault (Some x) e = (x, refl, ap (λ b. cond b (Ok tt) (Err (Faulty x))) e, λ z. true≢false (sym (eq-eqb (number_of x.reply) 0 z) ∙ e))

as_long :
    {src starts lengths terminals kinds tokens sizes roles : List ℕ} {a b : ℕ} → a ≡ b →
    (t : Table) → FileRead src starts lengths terminals kinds tokens sizes roles t → b ≡ length roles → a ≡ count t
as_long l t F o = l ∙ o ∙ ap length F.roles_are ∙ as_many_roles F.read

names_of :
    {src starts lengths terminals kinds tokens sizes roles bindings symbols keys nodes heads next scratch : List ℕ} {p : Result (Unit {0}) dictionary.Unfit}
    {symbols' keys' nodes' heads' next' : List ℕ} {c : Counts} {f : Option Fault} {bound' types' constants' : List ℕ} →
    PreparesFile src starts lengths terminals kinds tokens roles symbols keys nodes heads scratch next p symbols' keys' nodes' heads' next' → Counting kinds roles c → IsOk p →
    BindsPrepared kinds tokens sizes roles (take (length starts) symbols') starts keys' nodes' heads' next' bindings c.declarations (c.declarations + c.others) f bound' types' constants' →
    length bound' ≡ length bindings → (t : Table) → FileRead src starts lengths terminals kinds tokens sizes roles t → length bindings ≡ length roles → NamesBound t f bound' types' constants'
names_of P C q B l t F o = B.is t F.scanned (file_columns P C q F) F.sizes_are (counted_file P C q F).declarations_is (omega (arith, as_long l t F o, l))

module _ {src starts lengths terminals kinds tokens sizes roles bindings symbols keys nodes heads next first to types constants scratch : List ℕ} {p : Result (Unit {0}) dictionary.Unfit}
    {symbols' keys' nodes' heads' next' : List ℕ} where
  -- no dictionary
  pub unfit_prepared :
      PreparesFile src starts lengths terminals kinds tokens roles symbols keys nodes heads scratch next p symbols' keys' nodes' heads' next' → IsErr p →
      ResolvesRoles src starts lengths terminals kinds tokens sizes roles bindings symbols keys nodes heads next first to types constants scratch (Err Unfit) bindings types constants
  unfit_prepared P q = record {
    kept = λ w. refl;
    put_back = λ f w. absurd (false≢true (sym (ap is_unfit w)));
    is = λ t F o. tt;
    unfit = λ w t F R.
        P.unfit q t F.kinds_are F.tokens_are F.roles_are (same_symbols F) (rw (F.starts_are, F.lengths_are) R.symbol_room) R.consistent R.entry_room;
  }

  module _ {c : Counts} (P : PreparesFile src starts lengths terminals kinds tokens roles symbols keys nodes heads scratch next p symbols' keys' nodes' heads' next')
      (C : Counting kinds roles c) (q : IsOk p) where
    -- no room for the stages
    pub unfit_room :
        {b : Bool} {k : ℕ} → k ≡ length scratch → Decides (StageRoom (length starts) c.declarations (length first) (length to) (length types) (length constants) k) b → b ≡ false →
        ResolvesRoles src starts lengths terminals kinds tokens sizes roles bindings symbols keys nodes heads next first to types constants scratch (Err Unfit) bindings types constants
    unfit_room l D n = record {
      kept = λ w. refl;
      put_back = λ f w. absurd (false≢true (sym (ap is_unfit w)));
      is = λ t F o. tt;
      unfit = λ w t F R.
          let K : Counted t (count t) c = counted_file P C q F in
          D.no n (rw (ap length F.starts_are, K.declarations_is, l) R.stage_room);
    }

    pub file_resolved :
        (f : Option Fault) {r : Result (Unit {0}) Refusal} {bound' types' constants' bindings' : List ℕ} →
        BindsPrepared kinds tokens sizes roles (take (length starts) symbols') starts keys' nodes' heads' next' bindings c.declarations (c.declarations + c.others) f bound' types' constants' →
        length bound' ≡ length bindings → Finishes f roles bound' r bindings' →
        ResolvesRoles src starts lengths terminals kinds tokens sizes roles bindings symbols keys nodes heads next first to types constants scratch r bindings' types' constants'
    file_resolved f {r} {bound'} {types'} {constants'} {bindings'} B l E = by (is_fine f) refl
      where
        by : (b : Bool) → is_fine f ≡ b → ResolvesRoles src starts lengths terminals kinds tokens sizes roles bindings symbols keys nodes heads next first to types constants scratch r bindings' types' constants'
        by true e =
            let answer : r ≡ Ok tt = E.answer ∙ answer_fine f e in
            let bound_are : bindings' ≡ bound' = E.bindings_are ∙ ap (λ b. cond b bound' (sets bound' 0 (take (min (length roles) (length bound')) roles))) e in
            record {
              kept = λ w. absurd (false≢true (ap is_unfit (sym answer ∙ w)));
              put_back = λ x w o. absurd (false≢true (ap is_err (sym answer ∙ w)));
              is = λ t F o.
                  let N = names_of P C q B l t F o in
                  let m : length bound' ≡ count t = as_long l t F o in
                  let none : (fault_of f).number ≡ 0 = eqb-true (fault_of f).number 0 e in
                  subst (λ (x : Result (Unit {0}) Refusal). Resolved t x bindings' types' constants') (sym answer) (
                    ap (λ (x : express.Fault). x.number) (sym N.reply) ∙ none,
                    bound_are ∙ sym (take_all (count t) bound' (omega (arith, m))) ∙ bound_all t bound' (omega (arith, m)) (N.entries none),
                    N.types_arranged none,
                    N.constants_arranged none,
                  );
              unfit = λ w t F R. false≢true (ap is_unfit (sym answer ∙ w));
            }
        by false e =
            let A = at_fault f e in
            let answer : r ≡ Err (Faulty A.0) = E.answer ∙ A.2 in
            let put : bindings' ≡ sets bound' 0 (take (min (length roles) (length bound')) roles) = E.bindings_are ∙ ap (λ b. cond b bound' (sets bound' 0 (take (min (length roles) (length bound')) roles))) e in
            record {
              kept = λ w. absurd (false≢true (ap is_unfit (sym answer ∙ w)));
              put_back = λ y w o.
                  let all : take (min (length roles) (length bound')) roles ≡ roles = take_all (min (length roles) (length bound')) roles (omega (arith, o, l)) in
                  put ∙ ap (sets bound' 0) all ∙ sets_over bound' roles (omega (arith, o, l));
              is = λ t F o.
                  subst (λ (y : Result (Unit {0}) Refusal). Resolved t y bindings' types' constants') (sym answer) (sym (names_of P C q B l t F o).reply ∙ ap fault_of A.1, A.3);
              unfit = λ w t F R. false≢true (ap is_unfit (sym answer ∙ w));
            }

-- ---- roles in bytes

pub roles_fit : {bindings roles' : List ℕ} (roles : List ℕ) {b : Bool} → Narrows bindings (length roles) b roles' → not b ≡ false → length roles' ≡ length roles → length bindings ≤ length roles'
roles_fit roles {b} N n l = omega (arith, N.fits (not-false b n), l)

module _ {src starts lengths terminals kinds tokens sizes bindings roles symbols keys nodes heads next first to types constants scratch roles' : List ℕ} where
  -- a role that is no byte, or no room for the roles
  pub wide_resolved :
      {b : Bool} → Narrows bindings (length roles) b roles' → not b ≡ true →
      Resolves src starts lengths terminals kinds tokens sizes bindings roles symbols keys nodes heads next first to types constants scratch (Err Unfit) bindings types constants
  wide_resolved {b} N n = record {
    kept = λ w. refl;
    is = λ t F. tt;
    unfit = λ w t F R.
        let o : length bindings ≡ count t = ap length F.roles_are ∙ as_many_roles F.read in
        N.no (not-true b n) (omega (arith, o, R.role_room)) (λ k l. rw F.roles_are (R.small_roles k (omega (arith, l, o))));
  }

  pub narrow_resolved :
      {b : Bool} {r : Result (Unit {0}) Refusal} {bindings' types' constants' : List ℕ} → Narrows bindings (length roles) b roles' → not b ≡ false →
      ResolvesRoles src starts lengths terminals kinds tokens sizes (take (length bindings) roles') bindings symbols keys nodes heads next first to types constants scratch r
      bindings' types' constants' →
      Resolves src starts lengths terminals kinds tokens sizes bindings roles symbols keys nodes heads next first to types constants scratch r bindings' types' constants'
  narrow_resolved {b} {r} {bindings'} {types'} {constants'} N n Q = record {
    kept = λ d. by_kept r refl d;
    is = λ t F. Q.is t (as_bytes F) same_long;
    unfit = λ w t F R.
        Q.unfit w t (as_bytes F) (record {
          role_room = omega (arith, ap length front, ap length F.roles_are, as_many_roles F.read);
          small_roles = R.small_roles;
          symbol_room = R.symbol_room;
          consistent = R.consistent;
          entry_room = R.entry_room;
          stage_room = R.stage_room;
        });
  }
    where
      front : take (length bindings) roles' ≡ bindings
      front = N.front (not-false b n)

      same_long : length bindings ≡ length (take (length bindings) roles')
      same_long = sym (ap length front)

      as_bytes : {t : Table} → FileRead src starts lengths terminals kinds tokens sizes bindings t → FileRead src starts lengths terminals kinds tokens sizes (take (length bindings) roles') t
      as_bytes {t} F = rw front F

      by_kept : (x : Result (Unit {0}) Refusal) → r ≡ x → IsErr r → bindings' ≡ bindings
      by_kept (Ok u) e d = absurd (false≢true (sym (ap is_err e) ∙ d))
      by_kept (Err (Faulty y)) e d = Q.put_back y e same_long ∙ front
      by_kept (Err Unfit) e d = Q.kept e

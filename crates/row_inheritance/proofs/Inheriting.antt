-- The steps of `inherit_rows` and `inherit_all`, put together.
use mathlib.Core.Path.{◌≡◌, refl, sym, ap, ◌∙◌}
use mathlib.Core.Bool.{true, false, false≢true}
use mathlib.Core.List.{List, ◌++◌}
use Prim.Native.Nat.{ℕ, zero, suc, ◌+◌, ◌-◌, ◌*◌, ◌≤◌, ◌<◌}
use native.Mathlib.Omega.{arith}
use Rattle.std.specs.Prelude.{Some}
use lib.ListN.{length, get_or, drop, replicate, length-replicate, get_or-append}
use lib.Seq.{get_or-append-add}
use Rattle.columns.specs.Column.{cleared_before}
use Rattle.express.specs.Syntax.Tree.{Table}
use Rattle.scopes.specs.Range.{vertex_count}
use Rattle.scopes.proofs.Ranges.{column_node}
use Rattle.inheritance.specs.Inheritance.{ColumnsOf, Inheriting, InheritanceRoom, Inherits}
use Rattle.inheritance.proofs.Doing.{graph_is, same_room}
use Rattle.row_inheritance.specs.Steps.{RanksDeclarations, RelatesEntities, RowsFit, Chainable, ChainsAttributes, Ready, StoresInherited, InheritsRows}
use Rattle.row_inheritance.proofs.Reached.{entity_graph}
use Rattle.row_inheritance.proofs.Parts.{at_part}

-- ---- a table whose first numbers are cleared
zero_at : (n i : ℕ) → i < n → get_or {A = ℕ} (replicate n 0) i 0 ≡ 0
zero_at zero i l = absurd (omega arith)
zero_at (suc n) zero l = refl
zero_at (suc n) (suc i) l = zero_at n i (omega arith)

module _ (n : ℕ) (table : List ℕ) where
  cleared_front : (i : ℕ) → i < n → get_or (cleared_before 0 n table) i 0 ≡ 0
  cleared_front i l = get_or-append (replicate n 0) (drop n table) 0 i (omega (arith, length-replicate {A = ℕ} n 0)) ∙ zero_at n i l

  cleared_rest : (v : ℕ) → n ≤ length table → get_or (cleared_before 0 n table) (n + v) 0 ≡ get_or table (n + v) 0
  cleared_rest v l =
      ap (λ (k : ℕ). get_or (replicate n 0 ++ drop n table) (k + v) 0) (sym (length-replicate {A = ℕ} n 0)) ∙ get_or-append-add (replicate n 0) (drop n table) v 0
      ∙ sym (at_part n table v l)

module _ {kinds tokens roles symbols keys nodes first to table mark queue bound : List ℕ} {n entities width chained : ℕ} {table₂ table₃ table₄ rows pairs bound' : List ℕ}
    (F : RowsFit (length symbols) (length first) (length nodes) (length table)) (d : n ≡ length first - 1) (long : length table₂ ≡ length table)
    (K : RanksDeclarations kinds nodes (length symbols) n entities table₂) (R : RelatesEntities first to (length symbols) n entities table₂ (Some width) rows)
    (Z : table₃ ≡ cleared_before 0 (length symbols) table₂) (same : length table₃ ≡ length table₂)
    (H : ChainsAttributes kinds keys nodes rows (length symbols) n table₃ queue chained table₄ pairs) (fit : 2 * chained ≤ length queue)
    (S : StoresInherited kinds tokens roles symbols keys nodes first table₄ rows pairs width bound bound') where
  module _ {t : Table} (C : ColumnsOf t kinds tokens roles symbols) (I : Inheriting t keys nodes first to) (X : InheritanceRoom t table mark queue bound) where
    named : length symbols ≡ length t.symbols
    named = sym (ap length C.symbols_are)

    so_many : n ≡ vertex_count t
    so_many = omega (arith, d, I.graph.long)

    chainable : Chainable t kinds keys nodes (length symbols) n table₃
    chainable =
        record {
          kinds_are = C.kinds_are;
          scanned = I.scanned;
          heads = I.entry_heads;
          next = I.entry_next;
          prepared = I.prepared;
          named = named;
          so_many = so_many;
          few = omega (arith, X.stamps);
          long = omega (arith, F.rank_room, long, same, named, d, so_many);
          ranks =
              λ v l.
              let e = named in
              rw e at
              (ap (λ (c : List ℕ). get_or c (length symbols + v) 0) Z ∙ cleared_rest (length symbols) table₂ v (omega (arith, F.rank_room, long))
              ∙ K.stand.is v (omega (arith, so_many)));
          zeros = λ s l. ap (λ (c : List ℕ). get_or c s 0) Z ∙ cleared_front (length symbols) table₂ s (omega (arith, named));
          few_entries = omega (arith, F.few_entries, d, so_many);
        }

    ready : Ready t kinds tokens roles symbols keys nodes first to table₄ rows pairs width bound
    ready =
        record {
          columns = C;
          inheriting = I;
          few = omega (arith, X.stamps);
          narrow = R.narrow width refl;
          rows_are =
              R.rows_are width refl kinds nodes d K.total K.stand
              (entity_graph (record { kinds_are = C.kinds_are; node_is = column_node I.prepared }) (graph_is C I) I.read I.right);
          charted = H.is t chainable fit;
          empty = X.empty;
          room = X.bound_room;
        }

  pub by_rows : InheritsRows kinds tokens roles symbols keys nodes first to table mark queue bound true bound'
  by_rows =
      record {
        yes = λ _. record { is = λ t C I X m l. (S.is t to (ready C I X)).stored m l (omega arith) };
        no = λ e. absurd (false≢true (sym e));
      }

pub by_none : {kinds tokens roles symbols keys nodes first to table mark queue bound : List ℕ}
    → InheritsRows kinds tokens roles symbols keys nodes first to table mark queue bound false bound
by_none = record { yes = λ e. absurd (false≢true e); no = λ _. refl }

-- what is lent goes by its lengths
pub inherits_after : {kinds tokens roles symbols keys nodes first to table mark queue bound table' mark' queue' was bound' : List ℕ} → length table' ≡ length table
    → length mark' ≡ length mark → length queue' ≡ length queue → was ≡ bound
    → Inherits kinds tokens roles symbols keys nodes first to table' mark' queue' was bound' → Inherits kinds tokens roles symbols keys nodes first to table mark queue bound bound'
inherits_after {kinds} {tokens} {roles} {symbols} {keys} {nodes} {first} {to} {table} {mark} {queue} {bound} {table'} {mark'} {queue'} {was} {bound'} a b c e h =
    let h' : Inherits kinds tokens roles symbols keys nodes first to table' mark' queue' bound bound' = rw e at h in
    record { is = λ t C I X. h'.is t C I (same_room a b c X) }

-- A table by symbol, node by node: an entry with one node more says the meaning with one node more, and every other entry is as it was.
use mathlib.Core.Path.{◌≡◌, refl, sym, ap, ◌∙◌}
use mathlib.Core.Logic.{by_cases}
use mathlib.Core.Bool.{cond}
use mathlib.Core.List.{List, [], ◌∷◌}
use Prim.Native.Nat.{ℕ, ◌<◌}
use native.Mathlib.Omega.{arith}
use native.Mathlib.Decide.{ℕ_discrete, dec_lt}
use borrow.Author.Tests.{eq-eqb, ne_eqb}
use lib.Dec.{eqb}
use lib.ListN.{length, get_or, set, length-set, get_or-eq_default}
use Rattle.columns.proofs.Laws.{at_set, at_other}
use Rattle.relations.specs.Select.{keep}
use Rattle.relations.proofs.Select.{keep_cons}
use Rattle.express.specs.Names.Scope.{meaning}
use Rattle.symbol_tables.specs.Entry.{code, stamp_count, node_limit, stamp_of, held, joined, widened, entry_with, says}
use Rattle.symbol_tables.specs.Table.{Tabulated, OnlyStamped, Adds}
use Rattle.symbol_tables.proofs.Entries.{made_stamp, held_made, joined_small, joined_means}

-- under a stamp that no entry has every symbol means none
pub untouched : {symbol : ℕ → ℕ} {table : List ℕ} {stamp : ℕ} → ((s : ℕ) → stamp_of (get_or table s 0) ≡ stamp → ⊥) → Tabulated symbol table stamp []
unfolding keep
untouched {symbol} {table} {stamp} h = record { is = λ s l. rw (ne_eqb (stamp_of (get_or table s 0)) stamp (h s)) }

pub only_same : {stamp : ℕ} {table : List ℕ} → OnlyStamped stamp table table
only_same = record { others = λ s h. refl }

pub only_then : {stamp : ℕ} {a b c : List ℕ} → OnlyStamped stamp a b → OnlyStamped stamp b c → OnlyStamped stamp a c
only_then p q = record { others = λ s h. let e = q.others s h in e ∙ p.others s (λ z. h (ap stamp_of e ∙ z)) }

module _ {table table' : List ℕ} {stamp x n : ℕ} (few : stamp < stamp_count) (l : n < node_limit) (A : Adds table stamp x n table') where
  abbrev now : ℕ
  now = entry_with stamp (get_or table x 0) n

  now_stamp : stamp_of now ≡ stamp
  now_stamp = made_stamp stamp (joined (held stamp (get_or table x 0)) n) (joined_small (held stamp (get_or table x 0)) n l)

  now_held : held stamp now ≡ joined (held stamp (get_or table x 0)) n
  now_held = held_made stamp (joined (held stamp (get_or table x 0)) n) (joined_small (held stamp (get_or table x 0)) n l)

  pub add_only : OnlyStamped stamp table table'
  add_only = rw (A.is few l) (record { others = λ s h. by_cases (ℕ_discrete s x) (λ q. rw q (here (rw q at h))) (λ q. at_other table x s now 0 q) })
    where
      here : (stamp_of (get_or (set table x now) x 0) ≡ stamp → ⊥) → get_or (set table x now) x 0 ≡ get_or table x 0
      here h =
          by_cases (dec_lt x (length table)) (λ k. absurd (h (ap stamp_of (at_set table x now 0 k) ∙ now_stamp)))
          (λ k. get_or-eq_default (set table x now) 0 (omega (arith, k, length-set table x now)) ∙ sym (get_or-eq_default table 0 (omega (arith, k))))

  -- one node more
  pub add_tabulates : {symbol : ℕ → ℕ} {ns : List ℕ} → x ≡ symbol n → Tabulated symbol table stamp ns → Tabulated symbol table' stamp (n ∷ ns)
  add_tabulates {symbol} {ns} e T = rw (A.is few l) (record { is = λ s k. rw (keep_cons (λ m. eqb (symbol m) s) n ns) (at s (omega (arith, k, length-set table x now))) })
    where
      at : (s : ℕ) → s < length table
          → says (set table x now) stamp s ≡ code (meaning (cond (eqb (symbol n) s) (n ∷ keep (λ m. eqb (symbol m) s) ns) (keep (λ m. eqb (symbol m) s) ns)))
      at s k =
          by_cases (ℕ_discrete s x)
          (λ q.
          let y : symbol n ≡ s = sym (q ∙ e) in
          rw (eq-eqb (symbol n) s y)
          (ap (λ (c : ℕ). widened (held stamp c)) (ap (λ (i : ℕ). get_or (set table x now) i 0) q ∙ at_set table x now 0 (omega arith)) ∙ ap widened now_held
          ∙ joined_means (held stamp (get_or table x 0)) n (keep (λ m. eqb (symbol m) s) ns) l (ap (says table stamp) (sym q) ∙ T.is s k)))
          (λ q.
          rw (ne_eqb (symbol n) s (λ z. q (sym z ∙ sym e)))
          (ap (λ (c : ℕ). widened (held stamp c)) (at_other table x s now 0 q) ∙ T.is s k))

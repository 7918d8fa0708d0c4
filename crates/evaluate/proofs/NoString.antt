-- A row whose kind is not that of strings tells none.
use mathlib.Core.Path.{◌≡◌, refl}
use mathlib.Core.Bool.{Bool, true, false, cond}
use mathlib.Core.Option.{none}
use mathlib.Core.List.{List, [], ◌∷◌}
use Prim.Native.Nat.{ℕ, zero, suc}
use borrow.Author.Tests.{ne_eqb}
use native.Mathlib.Omega.{arith}
use lib.Dec.{eqb}
use lib.IntN.{ℤ}
use lib.ListN.{get_or}
use Rattle.express.specs.Semantics.Answer.{Answer, indeterminate, integer, logical, binary, item, string, end}
use Rattle.express.specs.Semantics.AnswerRow.{row}
use Rattle.express.specs.Semantics.Operate.{string_in}
use Rattle.express.specs.Semantics.Evaluate.{answer_at}
use Rattle.operations.specs.Meaning.{sized}
use Rattle.answer_rows.specs.Stored.{storable, stored, sized_answer}
use Rattle.node_answers.specs.Answers.{answers_in}

abbrev None : Answer → Type 0
None a = string_in a ≡ none

either : (P : Answer → Type 0) (b : Bool) {x y : Answer} → P x → P y → P (cond b x y)
either P true p q = p
either P false p q = q

row_none : (k : ℕ) (z : ℤ) (l : ℕ) → (k ≡ 5 → ⊥) → string_in (stored (sized_answer (row k z l))) ≡ none
row_none k z l h = either None (storable (sized_answer (row k z l))) told refl
  where
    no : eqb k 5 ≡ false
    no = ne_eqb k 5 h

    told : string_in (sized_answer (row k z l)) ≡ none
    told =
        rw no
        (either None (eqb k 0) refl (either None (eqb k 1) refl (either None (eqb k 2) refl (either None (eqb k 3) refl (either None (eqb k 4) refl refl)))))

pub no_string : (ks : List ℕ) (zs : List ℤ) (ls : List ℕ) (i : ℕ) → (get_or ks i 0 ≡ 5 → ⊥) → string_in (answer_at (answers_in ks zs ls) i) ≡ none
unfolding answers_in
no_string [] zs ls i h = refl
no_string (k ∷ ks) [] ls i h = refl
no_string (k ∷ ks) (z ∷ zs) [] i h = refl
no_string (k ∷ ks) (z ∷ zs) (l ∷ ls) zero h = row_none k z l h
no_string (k ∷ ks) (z ∷ zs) (l ∷ ls) (suc i) h = no_string ks zs ls i h

pub sized_none : (a : Answer) → string_in (sized a) ≡ none → string_in a ≡ none
sized_none indeterminate e = refl
sized_none (integer z) e = refl
sized_none (logical l) e = refl
sized_none (binary s) e = refl
sized_none (item m) e = refl
sized_none (string s) e = let z : ◌≡◌ {A = ℕ} 0 1 = cc in absurd (omega arith)
sized_none (end n) e = refl

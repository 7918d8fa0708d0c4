-- Answers in the rows of three columns: what is read at a row, and what storing one leaves.
use mathlib.Core.Path.{◌≡◌, refl, sym, ap, subst, ◌∙◌}
use mathlib.Core.Logic.{◌⊎◌, inl, inr}
use mathlib.Core.Bool.{Bool, true, false, cond}
use mathlib.Core.List.{List, [], ◌∷◌}
use Prim.Native.Nat.{ℕ, min, zero, suc, ◌≤◌, ◌<◌}
use native.Mathlib.Omega.{arith}
use lib.IntN.{ℤ, pos}
use lib.ListN.{length, get_or, set}
use Rattle.express.specs.Semantics.Answer.{Answer, indeterminate}
use Rattle.express.specs.Semantics.AnswerRow.{row, row_of}
use Rattle.express.specs.Semantics.Evaluate.{answer_at}
use Rattle.operations.specs.Meaning.{answer_of, sized}
use Rattle.operations.proofs.Sized.{answer_sized}
use Rattle.answer_rows.specs.Stored.{storable, stored, sized_answer, row_in}
use Rattle.operations.specs.declared.Answer as operations
use Rattle.operations.specs.declared.Answer.TheVariants.{Indeterminate}
use Rattle.answer_rows.specs.declared.Row.{Row}
use Rattle.answer_rows.proofs.Stored.{Storable, kept, sized_storable, row_back}
use Rattle.node_answers.specs.Answers.{answers_in, Gives, Stores, Keeps}
use Rattle.relations.proofs.Select.{le_or}

stored_storable : (a : Answer) → storable (stored a) ≡ true
stored_storable a = by (storable a) refl
  where
    by : (x : Bool) → storable a ≡ x → storable (cond x a indeterminate) ≡ true
    by true e = e
    by false e = refl

-- whatever columns hold, rows hold it
pub held_whole : (ks : List ℕ) (zs : List ℤ) (ls : List ℕ) (i : ℕ) → storable (answer_at (answers_in ks zs ls) i) ≡ true
unfolding answers_in
held_whole [] zs ls i = refl
held_whole (k ∷ ks) [] ls i = refl
held_whole (k ∷ ks) (z ∷ zs) [] i = refl
held_whole (k ∷ ks) (z ∷ zs) (l ∷ ls) zero = stored_storable (sized_answer (row k z l))
held_whole (k ∷ ks) (z ∷ zs) (l ∷ ls) (suc i) = held_whole ks zs ls i

pub row_there :
    (ks : List ℕ) (zs : List ℤ) (ls : List ℕ) (i : ℕ) → i < length ks → i < length zs → i < length ls →
    answer_at (answers_in ks zs ls) i ≡ stored (sized_answer (row (get_or ks i 0) (get_or zs i (pos 0)) (get_or ls i 0)))
unfolding answers_in
row_there [] zs ls i a b c = absurd (omega arith)
row_there (k ∷ ks) [] ls i a b c = absurd (omega arith)
row_there (k ∷ ks) (z ∷ zs) [] i a b c = absurd (omega arith)
row_there (k ∷ ks) (z ∷ zs) (l ∷ ls) zero a b c = refl
row_there (k ∷ ks) (z ∷ zs) (l ∷ ls) (suc i) a b c = row_there ks zs ls i (omega arith) (omega arith) (omega arith)

-- as many answers as the shortest has rows
pub rows_within : (ks : List ℕ) (zs : List ℤ) (ls : List ℕ) (i : ℕ) → i < length ks → i < length zs → i < length ls → i < length (answers_in ks zs ls)
unfolding answers_in
rows_within [] zs ls i a b c = absurd (omega arith)
rows_within (k ∷ ks) [] ls i a b c = absurd (omega arith)
rows_within (k ∷ ks) (z ∷ zs) [] i a b c = absurd (omega arith)
rows_within (k ∷ ks) (z ∷ zs) (l ∷ ls) zero a b c = omega arith
rows_within (k ∷ ks) (z ∷ zs) (l ∷ ls) (suc i) a b c = let h = rows_within ks zs ls i (omega arith) (omega arith) (omega arith) in omega arith

past_kinds : (ks : List ℕ) (zs : List ℤ) (ls : List ℕ) (i : ℕ) → length ks ≤ i → answer_at (answers_in ks zs ls) i ≡ indeterminate
unfolding answers_in
past_kinds [] zs ls i h = refl
past_kinds (k ∷ ks) [] ls i h = refl
past_kinds (k ∷ ks) (z ∷ zs) [] i h = refl
past_kinds (k ∷ ks) (z ∷ zs) (l ∷ ls) zero h = absurd (omega arith)
past_kinds (k ∷ ks) (z ∷ zs) (l ∷ ls) (suc i) h = past_kinds ks zs ls i (omega arith)

past_numbers : (ks : List ℕ) (zs : List ℤ) (ls : List ℕ) (i : ℕ) → length zs ≤ i → answer_at (answers_in ks zs ls) i ≡ indeterminate
unfolding answers_in
past_numbers [] zs ls i h = refl
past_numbers (k ∷ ks) [] ls i h = refl
past_numbers (k ∷ ks) (z ∷ zs) [] i h = refl
past_numbers (k ∷ ks) (z ∷ zs) (l ∷ ls) zero h = absurd (omega arith)
past_numbers (k ∷ ks) (z ∷ zs) (l ∷ ls) (suc i) h = past_numbers ks zs ls i (omega arith)

past_lengths : (ks : List ℕ) (zs : List ℤ) (ls : List ℕ) (i : ℕ) → length ls ≤ i → answer_at (answers_in ks zs ls) i ≡ indeterminate
unfolding answers_in
past_lengths [] zs ls i h = refl
past_lengths (k ∷ ks) [] ls i h = refl
past_lengths (k ∷ ks) (z ∷ zs) [] i h = refl
past_lengths (k ∷ ks) (z ∷ zs) (l ∷ ls) zero h = absurd (omega arith)
past_lengths (k ∷ ks) (z ∷ zs) (l ∷ ls) (suc i) h = past_lengths ks zs ls i (omega arith)

set_rows :
    (ks : List ℕ) (zs : List ℤ) (ls : List ℕ) (i k : ℕ) (z : ℤ) (l : ℕ) →
    answers_in (set ks i k) (set zs i z) (set ls i l) ≡ set (answers_in ks zs ls) i (stored (sized_answer (row k z l)))
unfolding answers_in
set_rows [] zs ls i k z l = refl
set_rows (x ∷ ks) [] ls zero k z l = refl
set_rows (x ∷ ks) [] ls (suc i) k z l = refl
set_rows (x ∷ ks) (y ∷ zs) [] zero k z l = refl
set_rows (x ∷ ks) (y ∷ zs) [] (suc i) k z l = refl
set_rows (x ∷ ks) (y ∷ zs) (w ∷ ls) zero k z l = refl
set_rows (x ∷ ks) (y ∷ zs) (w ∷ ls) (suc i) k z l = ap (λ (r : List Answer). stored (sized_answer (row x y w)) ∷ r) (set_rows ks zs ls i k z l)

-- ---- an answer of the code
pub same : {r : operations.Answer} {a b : Answer} → a ≡ b → Gives r a → Gives r b
same {r} p g = subst (λ (x : Answer). Gives r x) p g

pub nothing : Gives Indeterminate indeterminate
nothing = record { is = refl; whole = refl }

pub whole_of : {r : operations.Answer} {a : Answer} → Gives r a → Storable a
whole_of g = record { is = g.whole }

module _ (ks : List ℕ) (zs : List ℤ) (ls : List ℕ) (i : ℕ) where
  pub no_kind : length ks ≤ i → Gives Indeterminate (answer_at (answers_in ks zs ls) i)
  no_kind h = same (sym (past_kinds ks zs ls i h)) nothing

  pub no_number : length zs ≤ i → Gives Indeterminate (answer_at (answers_in ks zs ls) i)
  no_number h = same (sym (past_numbers ks zs ls i h)) nothing

  pub no_length : length ls ≤ i → Gives Indeterminate (answer_at (answers_in ks zs ls) i)
  no_length h = same (sym (past_lengths ks zs ls i h)) nothing

  pub read_row :
      i < length ks → i < length zs → i < length ls → {z : ℤ} → z ≡ get_or zs i (pos 0) → {r : operations.Answer} →
      answer_of r ≡ stored (sized_answer (row (get_or ks i 0) z (get_or ls i 0))) → Gives r (answer_at (answers_in ks zs ls) i)
  read_row a b c q e =
      record {
        is = e ∙ ap (λ (z : ℤ). stored (sized_answer (row (get_or ks i 0) z (get_or ls i 0)))) q ∙ sym (row_there ks zs ls i a b c);
        whole = held_whole ks zs ls i;
      }

-- ---- storing
pub stores :
    {x : Answer} {w : Row} {i : ℕ} {ks : List ℕ} {zs : List ℤ} {ls ks' : List ℕ} {zs' : List ℤ} {ls' : List ℕ} {z : ℤ} →
    row_in w ≡ row_of x → ks' ≡ set ks i w.kind → z ≡ w.number → zs' ≡ set zs i z → ls' ≡ set ls i w.length →
    Stores x i ks zs ls ks' zs' ls'
stores {i} {ks} {zs} {ls} e p q s u =
    record {
      kinds_are = p ∙ ap (λ v. set ks i v.kind) e;
      numbers_are = s ∙ ap (set zs i) q ∙ ap (λ v. set zs i v.number) e;
      lengths_are = u ∙ ap (λ v. set ls i v.length) e;
    }

module _ {a : operations.Answer} {x : Answer} (g : Gives a x) where
  pub made : stored (answer_of a) ≡ x
  made = ap stored g.is ∙ kept (whole_of g)

  -- an answer of the code is told as it is
  whole_sized : sized x ≡ x
  whole_sized = sym (ap sized g.is) ∙ answer_sized a ∙ g.is

  pub gives_sized : Gives a (sized x)
  gives_sized = record { is = g.is ∙ sym whole_sized; whole = (sized_storable (whole_of g)).is }

  back : stored (sized_answer (row_of x)) ≡ x
  back = row_back 0 {a = x} {w = row_of x} (whole_of g) refl refl ∙ whole_sized

  -- the row of an answer leads back to it
  pub stored_rows :
      {i : ℕ} {ks : List ℕ} {zs : List ℤ} {ls ks' : List ℕ} {zs' : List ℤ} {ls' : List ℕ} →
      Stores (stored (answer_of a)) i ks zs ls ks' zs' ls' →
      answers_in ks' zs' ls' ≡ set (answers_in ks zs ls) i x
  stored_rows {i} {ks} {zs} {ls} S =
      let y = stored (answer_of a) in
      rw (S.kinds_are, S.numbers_are, S.lengths_are)
      (set_rows ks zs ls i (row_of y).kind (row_of y).number (row_of y).length ∙
      ap (λ (v : Answer). set (answers_in ks zs ls) i (stored (sized_answer (row_of v)))) made ∙ ap (set (answers_in ks zs ls) i) back)

-- ---- copying a row
module _ (aks : List ℕ) (azs : List ℤ) (als : List ℕ) (i : ℕ) {ks : List ℕ} {zs : List ℤ} {ls ks' : List ℕ} {zs' : List ℤ} {ls' : List ℕ} {n : ℕ} where
  pub copies :
      i < length aks → i < length azs → i < length als → {z : ℤ} → z ≡ get_or azs i (pos 0) →
      ks' ≡ set ks n (get_or aks i 0) → zs' ≡ set zs n z → ls' ≡ set ls n (get_or als i 0) → Keeps (answer_at (answers_in aks azs als) i) n ks zs ls ks' zs' ls'
  copies a b c {z} q p s u =
      record {
        is = rw (p, s, u)
            (set_rows ks zs ls n (get_or aks i 0) z (get_or als i 0) ∙
            ap (set (answers_in ks zs ls) n) (ap (λ (y : ℤ). stored (sized_answer (row (get_or aks i 0) y (get_or als i 0)))) q ∙ sym (row_there aks azs als i a b c)));
      }

  pub copies_none :
      {m : ℕ} → m ≡ min (length aks) (min (length azs) (length als)) → m ≤ i → Stores (stored (answer_of Indeterminate)) n ks zs ls ks' zs' ls' →
      Keeps (answer_at (answers_in aks azs als) i) n ks zs ls ks' zs' ls'
  copies_none e l S = record { is = stored_rows (by (le_or (length aks) i) (le_or (length azs) i)) S }
    where
      by : (length aks ≤ i) ⊎ (i < length aks) → (length azs ≤ i) ⊎ (i < length azs) → Gives Indeterminate (answer_at (answers_in aks azs als) i)
      by (inl h) g = no_kind aks azs als i h
      by (inr h) (inl g) = no_number aks azs als i g
      by (inr h) (inr g) = no_length aks azs als i (omega (arith, e, l))

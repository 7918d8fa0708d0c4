-- A store into a column, by what stands where afterwards.
use mathlib.Core.Path.{◌≡◌, refl, sym, ap, ◌∙◌}
use mathlib.Core.List.{List}
use Prim.Native.Nat.{ℕ, zero, suc, ◌<◌}
use lib.ListN.{length, get_or, set, replicate, length-set}
use Rattle.columns.specs.Column.{cleared}
use Rattle.columns.proofs.Laws.{clear_all}
use lib.Seq.{get_or-set_same, get_or-set_other}

pub record Put (l l' : List ℕ) (i x : ℕ) : Type 0 where
  pub at : get_or l' i 0 ≡ x
  pub off : (j : ℕ) → (j ≡ i → ⊥) → get_or l' j 0 ≡ get_or l j 0
  pub long : length l' ≡ length l

pub put : (l : List ℕ) (i x : ℕ) → i < length l → Put l (set l i x) i x
put l i x h =
    record { at = get_or-set_same l i x 0 h; off = λ j n. get_or-set_other l i j x 0 n; long = length-set l i x }

-- places with different elements are apart
pub apart : (l : List ℕ) (u w x y : ℕ) → get_or l u 0 ≡ x → get_or l w 0 ≡ y → (x ≡ y → ⊥) → u ≡ w → ⊥
apart l u w x y p q n e = n (sym p ∙ ap (λ (k : ℕ). get_or l k 0) e ∙ q)

-- a column that was cleared
replicate_zero : (n k : ℕ) → get_or {A = ℕ} (replicate n 0) k 0 ≡ 0
replicate_zero zero k = refl
replicate_zero (suc n) zero = refl
replicate_zero (suc n) (suc k) = replicate_zero n k

pub zeros : (l l' : List ℕ) → l' ≡ cleared 0 0 l → (k : ℕ) → get_or l' k 0 ≡ 0
zeros l l' q k = ap (λ (x : List ℕ). get_or x k 0) (q ∙ clear_all 0 l) ∙ replicate_zero (length l) k

pub all_zeros : (l : List ℕ) {l' : List ℕ} {n : ℕ} → l' ≡ cleared 0 0 l → length l ≡ n → l' ≡ replicate n 0
all_zeros l q e = q ∙ clear_all 0 l ∙ ap (λ (k : ℕ). replicate k 0) e

-- Numbers in a row, and lists kept by a test.
use Rattle.std.specs.Prelude.{Bool, true, false, cond, ◌||◌, List, [], ◌∷◌, ℕ, zero, suc, ◌≤◌}

-- d numbers, from i on
unfoldable pub span : ℕ → ℕ → List ℕ
span i zero = []
span i (suc d) = i ∷ span (suc i) d

-- the first of d numbers from i on that passes the test, else the number after them
unfoldable pub first_from : (ℕ → Bool) → ℕ → ℕ → ℕ
first_from p i zero = i
first_from p i (suc d) = let later = first_from p (suc i) d in cond (p i) i later

module _ {A : Type 0} where
  -- those that pass the test, in their order
  unfoldable pub keep : (A → Bool) → List A → List A
  keep p [] = []
  keep p (x ∷ xs) = let rest = keep p xs in cond (p x) (x ∷ rest) rest

  unfoldable pub any : (A → Bool) → List A → Bool
  any p [] = false
  any p (x ∷ xs) = let rest = any p xs in p x || rest

  abbrev pub empty : List A → Bool
  empty [] = true
  empty (x ∷ xs) = false

  -- the first of two lists that is not empty
  abbrev pub nearest : List A → List A → List A
  nearest [] ys = ys
  nearest (x ∷ xs) ys = x ∷ xs

-- numbers that rise, from lo on; so none stands in the list twice
pub data Ascending : ℕ → List ℕ → Type 0 where
  nil : {lo : ℕ} → Ascending lo []
  cons : {lo n : ℕ} {ns : List ℕ} → lo ≤ n → Ascending (suc n) ns → Ascending lo (n ∷ ns)

-- Eight bytes as one number, the first of them the lowest, so that many are compared at once.
use Rattle.std.specs.Prelude.{◌≡◌, Bool, true, List, map, ℕ, zero, suc, ◌+◌, ◌*◌, ◌-◌, ◌<◌, get_or, take, drop}
use Rattle.std.specs.Int.Bits.{bit_and, bit_or}
use Rattle.express.specs.Tokens.Bytes.{lower, same}

-- the number with so many digits to the base 256
unfoldable pub number_of : ℕ → (ℕ → ℕ) → ℕ
number_of zero f = 0
number_of (suc m) f = number_of m (λ j. f (suc j)) * 256 + f 0

-- that of which each digit is 1
unfoldable pub ones : ℕ → ℕ
ones zero = 0
ones (suc m) = ones m * 256 + 1

-- of each digit the high bit, which is set in all that are no letters; the other bits mean nothing
unfoldable pub no_letters : ℕ → ℕ → ℕ
no_letters m a = let u = bit_and a (95 * ones m) in bit_or (bit_or (255 * ones m - (u + 63 * ones m)) (u + 37 * ones m)) a

-- ---- what inner functions give

-- the bytes from a place on
pub record Eight (xs : List ℕ) (k r : ℕ) : Type 0 where
  pub is : r ≡ number_of 8 (λ j. get_or xs (k + j) 0)

-- of two numbers: only where their first n bytes are the same but for the case of letters
pub record Agrees (a b n : ℕ) (r : Bool) : Type 0 where
  pub is :
      r ≡ true → (f g : ℕ → ℕ) → ((j : ℕ) → f j < 256) → ((j : ℕ) → g j < 256) → a ≡ number_of 8 f → b ≡ number_of 8 g → (j : ℕ) → j < n → j < 8 →
      lower (f j) ≡ lower (g j)

-- of two parts of the bytes: only where they are spelled alike
pub record SurelyAlike (xs : List ℕ) (p q n : ℕ) (r : Bool) : Type 0 where
  pub is : r ≡ true → same (map lower (take n (drop p xs))) (map lower (take n (drop q xs))) ≡ true

-- What is read of a literal's value: the bound on it, and the first steps to it.
use Rattle.std.specs.Prelude.{◌≡◌, List, ℕ, min, ◌+◌, ◌-◌, ◌≤◌, length, take, drop}
use Rattle.express.specs.Tokens.Lexis.{numeral, greatest}

-- what a byte counts as a digit; `0` is byte 48
abbrev pub digit_value : ℕ → ℕ
digit_value b = b - 48

-- numerals are decimal or binary
abbrev pub greatest_base : ℕ
greatest_base = 10

-- so many digits of base 2, whatever bytes they are, stay below 2 to the 63
abbrev pub few : ℕ
few = 55

-- A number up to one more than the largest integer, which is 2 to the 63: the values of tokens of the language are read whole, and whatever
-- is larger is seen to be.
abbrev pub capped : ℕ → ℕ
capped n = min n (greatest + 1)

-- what stands between the quotes of a string's token
abbrev pub between : List ℕ → List ℕ
between t = take (length t - 2) (drop 1 t)

-- THE NUMBER of a few bytes in base 2: below 2 to the 63, so that the digits of any longer part may go on from it
pub record FewBits (t : List ℕ) (v : ℕ) : Type 0 where
  pub below : v ≤ greatest
  pub is : v ≡ numeral 2 0 t

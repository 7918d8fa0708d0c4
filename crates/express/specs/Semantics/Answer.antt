-- What an expression comes to (K12).
use Rattle.std.specs.Prelude.{Bool, List, [], ◌∷◌, ℕ, ℤ}

-- the logicals, in their order (K22)
pub data Logical : Type 0 where
  FALSE UNKNOWN TRUE : Logical

-- The ends, by number: outside 64 signed bits (K17), or more than 63 bits or 255 bytes joined (K21); a divisor of 0 (K18); a negative power (K20); UNKNOWN for a
-- BOOLEAN (K26)
abbrev pub outside : ℕ
outside = 16

abbrev pub zero_divisor : ℕ
zero_divisor = 17

abbrev pub negative_power : ℕ
negative_power = 18

abbrev pub unknown_boolean : ℕ
unknown_boolean = 19

abbrev pub ends : List ℕ
ends = outside ∷ zero_divisor ∷ negative_power ∷ unknown_boolean ∷ []

-- K12: `?`; an integer; a logical; a binary, leftmost bit first, `true` for 1; an enumeration item by its node; a string, its bytes; or an end by
-- its number
pub data Answer : Type 0 where
  indeterminate : Answer
  integer : ℤ → Answer
  logical : Logical → Answer
  binary : List Bool → Answer
  item : ℕ → Answer
  string : List ℕ → Answer
  end : ℕ → Answer

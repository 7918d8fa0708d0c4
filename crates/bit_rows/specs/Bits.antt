-- Bits in a column of words.
use Rattle.std.specs.Prelude.{Bool, List, ℕ, ◌/◌, ◌%◌, ◌^◌, eqb, get_or, set}
use Rattle.std.specs.Int.Bits.{bit_or}

-- the bits of a word
abbrev pub word : ℕ
word = 32

-- bit i of a column, the last bit of a word being its first
unfoldable pub bit : List ℕ → ℕ → Bool
bit rows i = eqb (get_or rows (i / word) 0 / 2 ^ (i % word) % 2) 1

unfoldable pub with_bit : List ℕ → ℕ → List ℕ
with_bit rows i = set rows (i / word) (bit_or (get_or rows (i / word) 0) (2 ^ (i % word)))

-- Binaries: lists of bits, the leftmost bit first, `true` for 1 (T19).
use Rattle.std.specs.Prelude.{Bool, true, false, cond, List, [], ◌∷◌, ◌++◌, eqb, leb, length}
use Prim.Native.Nat.{ℕ, zero, suc, ◌+◌, ◌*◌, ◌/◌, ◌%◌, ◌^◌, compare, Ordering}
use Rattle.relations.specs.Order.{compare_lists}
use Rattle.express.specs.Semantics.Answer.{Answer, binary, end, outside}

abbrev pub bit : Bool → ℕ
bit true = 1
bit false = 0

-- the number that bits stand for: the leftmost weighs most (K35)
unfoldable pub number : List Bool → ℕ
number [] = 0
number (x ∷ xs) = bit x * 2 ^ length xs + number xs

-- the last l bits of n: for n below 2 ^ l, the only list of l bits whose number is n (proofs/kinds/Bits)
unfoldable pub bits : ℕ → ℕ → List Bool
bits zero n = []
bits (suc l) n = eqb (n / 2 ^ l % 2) 1 ∷ bits l n

-- K21: `+` of two binaries joins them, up to 63 bits
unfoldable pub join : List Bool → List Bool → Answer
join xs ys = cond (leb (length (xs ++ ys)) 63) (binary (xs ++ ys)) (end outside)

-- K22: the leftmost bits that differ decide, and where there are none the shorter binary is less
abbrev pub compare_bit : Bool → Bool → Ordering
compare_bit x y = compare (bit x) (bit y)

abbrev pub compare_bits : List Bool → List Bool → Ordering
compare_bits xs ys = compare_lists compare_bit xs ys

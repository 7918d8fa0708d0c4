-- The logic of three values (K22, K24).
use Rattle.std.specs.Prelude.{cond, leb}
use Prim.Native.Nat.{ℕ, compare, Ordering}
use Rattle.express.specs.Semantics.Answer.{Logical, FALSE, UNKNOWN, TRUE}

-- the place of a logical in their order (K22), which is also its number in an answer row (K35)
abbrev pub rank : Logical → ℕ
rank FALSE = 0
rank UNKNOWN = 1
rank TRUE = 2

abbrev pub compare_logical : Logical → Logical → Ordering
compare_logical a b = compare (rank a) (rank b)

-- K24: the lesser of the two
unfoldable pub AND : Logical → Logical → Logical
AND a b = cond (leb (rank a) (rank b)) a b

-- the greater
unfoldable pub OR : Logical → Logical → Logical
OR a b = cond (leb (rank a) (rank b)) b a

-- TRUE and FALSE exchanged
abbrev pub NOT : Logical → Logical
NOT FALSE = TRUE
NOT UNKNOWN = UNKNOWN
NOT TRUE = FALSE

-- UNKNOWN where one of the two is; else TRUE where they differ
unfoldable pub XOR : Logical → Logical → Logical
XOR UNKNOWN b = UNKNOWN
XOR FALSE UNKNOWN = UNKNOWN
XOR FALSE FALSE = FALSE
XOR FALSE TRUE = TRUE
XOR TRUE UNKNOWN = UNKNOWN
XOR TRUE FALSE = TRUE
XOR TRUE TRUE = FALSE

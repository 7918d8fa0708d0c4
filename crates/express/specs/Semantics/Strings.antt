-- Strings: lists of bytes (T19).
use Rattle.std.specs.Prelude.{cond, List, ◌++◌, leb, length}
use Prim.Native.Nat.{ℕ, compare, Ordering}
use Rattle.relations.specs.Order.{compare_lists}
use Rattle.express.specs.Tokens.Lexis.{most_bytes}
use Rattle.express.specs.Semantics.Answer.{Answer, string, end, outside}

-- K21: `+` of two strings joins them, up to 255 bytes
unfoldable pub join_strings : List ℕ → List ℕ → Answer
join_strings xs ys = cond (leb (length (xs ++ ys)) most_bytes) (string (xs ++ ys)) (end outside)

-- K22: the leftmost bytes that differ decide, and where there are none the shorter string is less
abbrev pub compare_bytes : List ℕ → List ℕ → Ordering
compare_bytes xs ys = compare_lists compare xs ys

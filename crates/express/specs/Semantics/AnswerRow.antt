-- The rows of answers, and the room that their strings lie in (K35, K36).
use Rattle.std.specs.Prelude.{cond, ℕ, ◌+◌, eqb, length, take, drop, ℤ, pos, negsuc}
use mathlib.Core.List.{List, [], ◌∷◌, flat_map}
use Rattle.express.specs.Semantics.Answer.{Logical, FALSE, UNKNOWN, TRUE, Answer, indeterminate, integer, logical, binary, item, string, end}
use Rattle.express.specs.Semantics.Logic.{rank}
use Rattle.express.specs.Semantics.Bits.{number, bits}

pub record AnswerRow : Type 0 where
  pub kind : ℕ
  pub number : ℤ
  pub length : ℕ

abbrev pub row : ℕ → ℤ → ℕ → AnswerRow
row k z l = record { kind = k; number = z; length = l }

-- a logical by its rank, a binary by its bits as a number and how many they are, an item by its node, an end by its kind alone; a string by its start
-- in the room and how many bytes it has
abbrev pub row_at : ℕ → Answer → AnswerRow
row_at start indeterminate = row 0 (pos 0) 0
row_at start (integer z) = row 1 z 0
row_at start (logical l) = row 2 (pos (rank l)) 0
row_at start (binary s) = row 3 (pos (number s)) (length s)
row_at start (item m) = row 4 (pos m) 0
row_at start (string s) = row 5 (pos start) (length s)
row_at start (end e) = row e (pos 0) 0

-- the row of an answer by itself
abbrev pub row_of : Answer → AnswerRow
row_of a = row_at 0 a

-- the bytes of an answer that lie in the room
abbrev pub bytes_of : Answer → List ℕ
bytes_of indeterminate = []
bytes_of (integer z) = []
bytes_of (logical l) = []
bytes_of (binary s) = []
bytes_of (item m) = []
bytes_of (string s) = s
bytes_of (end e) = []

-- K36: the rows of answers in their order, the first string at a start: each starts where the one before it ends
unfoldable pub rows_from : ℕ → List Answer → List AnswerRow
rows_from start [] = []
rows_from start (x ∷ xs) = row_at start x ∷ rows_from (start + length (bytes_of x)) xs

-- K36: the strings in the order of their rows, without gaps
abbrev pub room_of : List Answer → List ℕ
room_of xs = flat_map bytes_of xs

-- ---- the way back: the answer that a row stands for (`row_back` of proofs/whole/AnswerRow)

-- a number of a row that counts from 0
abbrev pub natural : ℤ → ℕ
natural (pos n) = n
natural (negsuc n) = 0

abbrev pub ranked : ℕ → Logical
ranked n = cond (eqb n 0) FALSE (cond (eqb n 1) UNKNOWN TRUE)

-- a string by its bytes in the room; a kind above 5 is an end by its number
abbrev pub row_answer : List ℕ → AnswerRow → Answer
row_answer room r =
    let n = natural r.number in
    let k = r.kind in
    cond (eqb k 0) indeterminate
    (cond (eqb k 1) (integer r.number)
    (cond (eqb k 2) (logical (ranked n))
    (cond (eqb k 3) (binary (bits r.length n))
    (cond (eqb k 4) (item n)
    (cond (eqb k 5) (string (take r.length (drop n room))) (end k))))))

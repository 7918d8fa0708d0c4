-- The rows in which answers are kept (K35): 8 bits for the kind and for the length, 64 signed bits for the number, of which the node of an item takes 32.
use Rattle.std.specs.Prelude.{Bool, true, cond, ◌&&◌, [], ◌^◌, eqb, leb, ltb, length}
use Rattle.express.specs.Semantics.Answer.{Answer, indeterminate, integer, logical, binary, item, string, end, outside, unknown_boolean}
use Rattle.express.specs.Semantics.AnswerRow.{AnswerRow, row, row_answer}
use Rattle.express.specs.Tokens.Lexis.{most_bytes}
use Rattle.operations.specs.Meaning.{of_size}
use Rattle.answer_rows.specs.declared.Row.{Row}

-- the row that one of the code stands for
abbrev pub row_in : Row → AnswerRow
row_in r = row r.kind r.number r.length

-- the answers that such a row holds: a binary of up to 63 bits and a string of up to 255 bytes (K21), a node of 32 bits, one of the ends (R4); the integers of the code have 64 bits
abbrev pub storable : Answer → Bool
storable indeterminate = true
storable (integer z) = true
storable (logical l) = true
storable (binary s) = leb (length s) 63
storable (item m) = ltb m (2 ^ 32)
storable (string s) = leb (length s) most_bytes
storable (end e) = leb outside e && leb e unknown_boolean

-- what is kept of an answer: the answer itself, but `?` of one that no row holds. Every answer of an evaluation is kept as it is (proofs/Stored).
abbrev pub stored : Answer → Answer
stored a = cond (storable a) a indeterminate

-- K35: what a row tells without the room: of a string, whose kind is 5, the length alone
abbrev pub sized_answer : AnswerRow → Answer
sized_answer r = cond (eqb r.kind 5) (of_size r.length) (row_answer [] r)

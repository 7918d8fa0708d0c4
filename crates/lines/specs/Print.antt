-- What a function of this crate says of the line that it is to print, and the tables that a line is made of.
use Rattle.std.specs.Prelude.{◌≡◌, cond, List, [], ℕ, leb, length, Result, Ok, Err}
use Rattle.std.proofs.lemmas.List.Edits.{sets}
use Rattle.express.specs.Syntax.Tree.{Table}
use Rattle.express.specs.Semantics.Answer as express
use Rattle.express.specs.Semantics.AnswerRow.{row, row_answer}
use Rattle.records.specs.declared.Answer.{Answer}
use Rattle.lines.specs.declared.Short.{Short}
use Rattle.lines.specs.declared.Columns.{Columns}

abbrev pub short : ℕ → Short
short n = record { length = n }

-- of a line of n bytes and a buffer of m: whether it fits, and its length
abbrev pub fitted : ℕ → ℕ → Result ℕ Short
fitted n m = cond (leb n m) (Ok n) (Err (short n))

-- the line from the buffer's start on, as far as it fits, and the rest of the buffer as it was
pub record Prints (line was have : List ℕ) (r : Result ℕ Short) : Type 0 where
  pub is : have ≡ sets was 0 line
  pub answer : r ≡ fitted (length line) (length was)

-- the columns that a line is made of, as a table; the others play no part in it
abbrev pub table_of : List ℕ → List ℕ → List ℕ → List ℕ → List ℕ → Table
table_of text starts lengths kinds tokens =
    record {
      bytes = text;
      starts = starts;
      lengths = lengths;
      terminals = [];
      symbols = [];
      kinds = kinds;
      tokens = tokens;
      sizes = [];
      roles = [];
    }

abbrev pub table : Columns → Table
table c = table_of c.text.now c.starts.now c.lengths.now c.kinds.now c.tokens.now

-- the answer that a record stands for, a string by its bytes in the room
abbrev pub record_answer : List ℕ → Answer → express.Answer
record_answer room a = row_answer room (row a.kind a.number a.length)

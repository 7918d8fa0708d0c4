-- Cases of K13 to K25, as one table: the type and the text of an expression, and the answer of a constant so declared.
use Rattle.std.proofs.Math.Option.{Option, none, some}
use Rattle.std.specs.Prelude.{List, [], ◌∷◌, ◌++◌, ℕ, pos, negsuc}
use Prim.Native.String.{String}
use Rattle.express.specs.Semantics.Answer.{UNKNOWN, TRUE, Answer, indeterminate, integer, logical, end}
use Rattle.express.specs.Tokens.Terminal.{bytes}
use Rattle.express.specs.Whole.Reply.{Checked, accepted, refused}

-- SCHEMA s; CONSTANT c : type := expression; END_CONSTANT; END_SCHEMA;
abbrev pub file_of : String → String → List ℕ
file_of type expression =
    bytes "SCHEMA s; CONSTANT c : " ++ bytes type ++ bytes " := " ++ bytes expression ++ bytes "; END_CONSTANT; END_SCHEMA;"

-- the answers of the constants of a text, if it is accepted
abbrev pub answers_of : Checked → Option (List Answer)
answers_of (accepted a) = some a.answers
answers_of (refused k p) = none

pub record Case : Type 0 where
  pub type : String
  pub expression : String
  pub answer : Answer

abbrev case : String → String → Answer → Case
case t e a = record { type = t; expression = e; answer = a }

abbrev pub least_integer : Answer
least_integer = integer (negsuc 9223372036854775807)

abbrev pub cases : List Case
cases =
    case "INTEGER" "-10**2" (integer (pos 100)) ∷
    case "INTEGER" "7 DIV -2" (integer (negsuc 2)) ∷
    case "INTEGER" "7 MOD -2" (integer (negsuc 0)) ∷
    case "INTEGER" "-7 MOD 2" (integer (pos 1)) ∷
    case "INTEGER" "-7 DIV -2" (integer (pos 4)) ∷
    case "INTEGER" "-9223372036854775807 - 1" least_integer ∷
    case "INTEGER" "(-9223372036854775807 - 1) DIV -1" (end 16) ∷
    case "INTEGER" "(-9223372036854775807 - 1) MOD -1" (integer (pos 0)) ∷
    case "INTEGER" "2**62" (integer (pos 4611686018427387904)) ∷
    case "INTEGER" "2**63" (end 16) ∷
    case "INTEGER" "-2**63" least_integer ∷
    case "INTEGER" "0**0" (integer (pos 1)) ∷
    case "INTEGER" "1**-1" (end 18) ∷
    case "INTEGER" "? DIV 0" indeterminate ∷
    case "LOGICAL" "FALSE XOR ?" (logical UNKNOWN) ∷
    case "LOGICAL" "%01 < %010" (logical TRUE) ∷
    []

-- What the program prints of an outcome, as bytes.
use Rattle.std.specs.Prelude.{Bool, true, false, cond, ℕ, zero, suc, ◌+◌, ◌/◌, ◌%◌, eqb, ltb, ℤ, pos, negsuc, length, get_or}
use mathlib.Core.List.{List, [], ◌∷◌, ◌++◌, map, flat_map}
use Prim.Native.String.{String}
use Rattle.express.specs.Semantics.Answer.{Logical, FALSE, UNKNOWN, TRUE, Answer, indeterminate, integer, logical, binary, item, string, end}
use Rattle.express.specs.Tokens.Terminal.{bytes}
use Rattle.express.specs.Tokens.Lexis.{quote}
use Rattle.express.specs.Tokens.Spelling.{spelling}
use Rattle.relations.specs.Select.{span}
use Rattle.express.specs.Syntax.Tree.{Table, token, schema_of}
use Rattle.express.specs.Semantics.Kind.{constants}
use Rattle.express.specs.Whole.Reply.{Accepted, Checked, accepted, refused, checked}

-- the byte of a digit
abbrev pub digit_byte : ℕ → ℕ
digit_byte n = 48 + n

-- the decimal digits of a number, before the digits ds; each turn takes one, so as many turns as the number and one more are enough
unfoldable pub digits : ℕ → ℕ → List ℕ → List ℕ
digits zero n ds = ds
digits (suc f) n ds = let more = digits f (n / 10) (digit_byte (n % 10) ∷ ds) in cond (ltb n 10) (digit_byte n ∷ ds) more

-- 20 digits hold every number that is printed: magnitudes are at most 2 ^ 63
abbrev pub decimal : ℕ → List ℕ
decimal n = digits 20 n []

-- R15: an integer in decimal
abbrev pub signed : ℤ → List ℕ
signed (pos n) = decimal n
signed (negsuc n) = bytes "-" ++ decimal (suc n)

abbrev pub logical_name : Logical → String
logical_name FALSE = "FALSE"
logical_name UNKNOWN = "UNKNOWN"
logical_name TRUE = "TRUE"

abbrev pub bit_digit : Bool → ℕ
bit_digit true = 49
bit_digit false = 48

-- a byte of a string as a literal has it: a quote twice
abbrev pub quoted_byte : ℕ → List ℕ
quoted_byte b = cond (eqb b quote) (quote ∷ quote ∷ []) (b ∷ [])

-- R15: a string as a literal; `string_value` takes it back (`literal_value` of the crate `theorems`)
abbrev pub literal : List ℕ → List ℕ
literal s = (quote ∷ flat_map quoted_byte s) ++ (quote ∷ [])

-- a name, or an item, in lower case
abbrev pub name_of : Table → ℕ → List ℕ
name_of t n = spelling t.bytes t.starts t.lengths (token t n)

-- an answer
abbrev pub printed : Table → Answer → List ℕ
printed t indeterminate = bytes "?"
printed t (integer z) = signed z
printed t (logical l) = bytes (logical_name l)
printed t (binary s) = bytes "%" ++ map bit_digit s
printed t (item m) = name_of t m
printed t (string s) = literal s
printed t (end e) = bytes "end " ++ decimal e

abbrev pub line_feed : ℕ
line_feed = 10

abbrev pub line : List ℕ → List ℕ
line s = s ++ (line_feed ∷ [])

-- schema.constant = answer, for a constant c
abbrev pub answer_line : Table → ℕ → Answer → List ℕ
answer_line t c a = line (name_of t (schema_of t c) ++ bytes "." ++ name_of t c ++ bytes " = " ++ printed t a)

-- for the i-th constant
abbrev pub constant_line : Accepted → ℕ → List ℕ
constant_line a i = let t = a.table in answer_line t (get_or (constants t) i 0) (get_or a.answers i indeterminate)

abbrev pub accepted_line : ℕ → List ℕ
accepted_line n = line (bytes "accepted " ++ decimal n)

abbrev pub refused_line : ℕ → ℕ → List ℕ
refused_line k p = line (bytes "refused " ++ decimal k ++ bytes " at " ++ decimal p)

-- R13, R14
unfoldable pub listing : Checked → List ℕ
listing (refused k p) = refused_line k p
listing (accepted a) = accepted_line (length a.answers) ++ flat_map (constant_line a) (span 0 (length a.answers))

-- the program, with the tables that it lends
abbrev pub program : List ℕ → List ℕ
program s = listing (checked s 8192 8192 1024 261120)

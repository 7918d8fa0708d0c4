-- What the types of the code stand for: answers (K12), operators and signs (K7).
use Rattle.std.specs.Prelude.{◌≡◌, Bool, true, false, length, Option, None, Some}
use Rattle.std.proofs.Math.Option.{none, some}
use Rattle.std.proofs.Math.Option as math
use Rattle.std.specs.declared.cmp.Ordering as order
use Prim.Native.Nat.{Ordering}
use Rattle.express.specs.Semantics.Answer.{indeterminate, integer, logical, binary, item, string, end}
use Rattle.express.specs.Semantics.Answer as answer
use Rattle.express.specs.Semantics.Declared.{Declared, INTEGER, BOOLEAN, LOGICAL, BINARY, STRING, enumeration, other}
use Rattle.express.specs.Semantics.Evaluate.{held}
use Rattle.express.specs.Semantics.Shape.{minus, times, divide, modulo, power, and, or, xor, plus, arithmetic, relation, connective, positive, negative, not}
use Rattle.express.specs.Semantics.Shape as shape
use Rattle.values.specs.Meaning.{end_number, logical_of, ordering_of, relation_of}
use Rattle.bits.specs.Meaning.{bits_of}
pub use Rattle.strings.specs.Meaning.{of_size}
use Rattle.operations.specs.declared.Answer.{Answer}
use Rattle.operations.specs.declared.Answer.TheVariants as an_answer
use Rattle.operations.specs.declared.Arithmetic.{Arithmetic}
use Rattle.operations.specs.declared.Arithmetic.TheVariants.{Minus, Times, Divide, Modulo, Power}
use Rattle.operations.specs.declared.Connective.{Connective}
use Rattle.operations.specs.declared.Connective.TheVariants.{And, Or, Xor}
use Rattle.operations.specs.declared.Operator.{Operator}
use Rattle.operations.specs.declared.Operator.TheVariants as an_operator
use Rattle.operations.specs.declared.Sign.{Sign}
use Rattle.operations.specs.declared.Sign.TheVariants.{Positive, Negative, Not}

-- an item by its node, a string by its length, an end by its number
abbrev pub answer_of : Answer → answer.Answer
answer_of an_answer.Indeterminate = indeterminate
answer_of (an_answer.Integer z) = integer z
answer_of (an_answer.Logical l) = logical (logical_of l)
answer_of (an_answer.Binary b) = binary (bits_of b)
answer_of (an_answer.Item m) = item m
answer_of (an_answer.Text n) = of_size n
answer_of (an_answer.Ended e) = end (end_number e)

-- what the code tells of an answer: of a string the length alone
abbrev pub sized : answer.Answer → answer.Answer
sized indeterminate = indeterminate
sized (integer z) = integer z
sized (logical l) = logical l
sized (binary s) = binary s
sized (item m) = item m
sized (string s) = of_size (length s)
sized (end e) = end e

abbrev pub arithmetic_of : Arithmetic → shape.Arithmetic
arithmetic_of Minus = minus
arithmetic_of Times = times
arithmetic_of Divide = divide
arithmetic_of Modulo = modulo
arithmetic_of Power = power

abbrev pub connective_of : Connective → shape.Connective
connective_of And = and
connective_of Or = or
connective_of Xor = xor

abbrev pub operator_of : Operator → shape.Operator
operator_of an_operator.Plus = plus
operator_of (an_operator.Arithmetic o) = arithmetic (arithmetic_of o)
operator_of (an_operator.Relation o) = relation (relation_of o)
operator_of (an_operator.Connective o) = connective (connective_of o)

abbrev pub sign_of : Sign → shape.Sign
sign_of Positive = positive
sign_of Negative = negative
sign_of Not = not

-- the order of two values, where they have one (K22)
abbrev pub comparison_of : Option order.Ordering → math.Option Ordering
comparison_of (Some o) = some (ordering_of o)
comparison_of None = none

-- whether a declared type is BOOLEAN, seen through renamings (K2)
abbrev pub is_boolean : Declared → Bool
is_boolean INTEGER = false
is_boolean BOOLEAN = true
is_boolean LOGICAL = false
is_boolean BINARY = false
is_boolean STRING = false
is_boolean (enumeration y) = false
is_boolean other = false

-- K26: r is what a constant holds whose expression comes to x, for every type that is BOOLEAN exactly where b says so
pub record Holds (b : Bool) (x r : Answer) : Type 0 where
  pub is : (d : Declared) → is_boolean d ≡ b → answer_of r ≡ held d (answer_of x)

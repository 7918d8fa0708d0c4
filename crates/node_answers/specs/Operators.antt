-- What is read of the terminal of a two-operand operator (K7, K10).
use Rattle.std.specs.Prelude.{Option, None, Some}
use Rattle.std.proofs.Math.Option.{none, some}
use Rattle.std.proofs.Math.Option as math
use Rattle.express.specs.Semantics.Answer.{Answer, indeterminate}
use Rattle.express.specs.Semantics.Operate.{combined}
use Rattle.express.specs.Semantics.Shape as shape
use Rattle.operations.specs.Meaning.{operator_of}
use Rattle.operations.specs.declared.Operator.{Operator}

abbrev pub reading_of : Option Operator → math.Option shape.Operator
reading_of (Some o) = some (operator_of o)
reading_of None = none

-- K10: `/` is not evaluated
abbrev pub combined_by : math.Option shape.Operator → Answer → Answer → Answer
combined_by none x y = indeterminate
combined_by (some o) x y = combined o x y

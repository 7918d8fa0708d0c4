use mathlib.Core.Path.{◌∙◌, ap}
use Rattle.express.specs.Semantics.AnswerRow.{row_of}
use Rattle.express.specs.Semantics.Integer.{negation}
use Rattle.integers.proofs.Calls.{own_one}
use Rattle.test_exports.proofs.arithmetic.woffulent_negate.Goals as goal

pub returns : goal.returns
returns c = c.answer_row.ensures ∙ ap row_of (own_one negation c.ranges.a c.negate.ensures)

use mathlib.Core.Path.{◌∙◌, ap}
use Rattle.express.specs.Semantics.AnswerRow.{row_of}
use Rattle.express.specs.Semantics.Integer.{DIV}
use Rattle.integers.proofs.Calls.{own_two}
use Rattle.test_exports.proofs.arithmetic.woffulent_div.Goals as goal

pub returns : goal.returns
returns c = c.answer_row.ensures ∙ ap row_of (own_two DIV c.ranges.a c.ranges.b c.div.ensures)

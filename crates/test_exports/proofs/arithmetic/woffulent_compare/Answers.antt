use mathlib.Core.Path.{◌∙◌, ap}
use Rattle.express.specs.Semantics.Integer.{compareℤ}
use Rattle.integers.proofs.Calls.{own_two}
use Rattle.test_exports.specs.Places.{order_place}
use Rattle.test_exports.proofs.arithmetic.woffulent_compare.Goals as goal

pub returns : goal.returns
returns c = let s = c.ranges in c.order_place.ensures ∙ ap order_place (own_two compareℤ s.a s.b c.compare.ensures)

use mathlib.Core.Path.{◌∙◌, ap}
use Rattle.test_exports.specs.Places.{order_place}
use Rattle.test_exports.proofs.binaries.woffulent_compare_binaries.Goals as goal

pub returns : goal.returns
returns c = c.order_place.ensures ∙ ap order_place c.compare-order.ensures

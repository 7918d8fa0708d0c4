-- `orders::count` meets its contract. Assumes nothing.
use mathlib.Core.Path.{◌∙◌}
use Rattle.orders.proofs.count.Goals as goal

pub loop-e-preserved : goal.loop-e-preserved
loop-e-preserved c = c.put.auto.column ∙ c.loop-e.invariant

pub shape_of-s : goal.shape_of-s
shape_of-s c = c.loop-e.invariant

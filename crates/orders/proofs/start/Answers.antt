-- `orders::start` meets its contract. Assumes nothing.
use mathlib.Core.Path.{◌∙◌}
use Rattle.orders.proofs.start.Goals as goal

pub loop-v-preserved : goal.loop-v-preserved
loop-v-preserved c = c.put.auto.column ∙ c.loop-v.invariant

pub shape_of-s : goal.shape_of-s
shape_of-s c = c.loop-v.invariant

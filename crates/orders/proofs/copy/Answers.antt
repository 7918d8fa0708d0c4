-- `orders::copy` meets its contract. Assumes nothing.
use Rattle.orders.proofs.Placing.{copying_start, copying_step, copying_end}
use Rattle.orders.proofs.copy.Goals as goal

pub loop-k-init : goal.loop-k-init
loop-k-init c = copying_start

pub loop-k-preserved : goal.loop-k-preserved
loop-k-preserved c = copying_step c.loop-k.invariant c.at.ensures c.number.ensures c.put.ensures

pub shape_of-order : goal.shape_of-order
shape_of-order c = c.loop-k.invariant.long

pub returns : goal.returns
returns c = copying_end c.loop-k.invariant c.loop-k-test.false

-- `dependencies::name_nodes` meets its contract: the first k entries are named. Assumes nothing.
use Rattle.dependencies.proofs.Naming.{naming_starts, naming_goes_on, naming_ends, naming_long}
use Rattle.dependencies.proofs.name_nodes.Goals as goal

pub loop-k-init : goal.loop-k-init
loop-k-init c = naming_starts _ _ _

pub loop-k-preserved : goal.loop-k-preserved
loop-k-preserved c = naming_goes_on c.loop-k.invariant c.loop-k-test.true c.get_or.ensures c.index-v.ensures
    c.get_or-in-loop-k.ensures c.put.ensures

pub shape_of-order : goal.shape_of-order
shape_of-order c = naming_long c.loop-k.invariant

pub returns : goal.returns
returns c = naming_ends c.loop-k.invariant c.loop-k-test.false

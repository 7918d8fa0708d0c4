-- `ancestors::merge` meets its contract. Assumes nothing.
use Rattle.ancestors.proofs.Steps.{merging_start, merging_step, merging_end}
use Rattle.ancestors.proofs.merge.Goals as goal

pub loop-k-init : goal.loop-k-init
loop-k-init c = merging_start

pub loop-k-preserved : goal.loop-k-preserved
loop-k-preserved c = let t = c.loop-k-test.true in
    merging_step c.loop-k.invariant t c.put.auto.column c.get_or.ensures c.get_or-in-loop-k.ensures c.put.ensures

pub shape_of-rows : goal.shape_of-rows
shape_of-rows c = c.loop-k.invariant.long

pub returns : goal.returns
returns c = merging_end c.loop-k.invariant c.loop-k-test.false

-- `tree::in_block` meets its contract: what was found, or is still to come, is what the block has. Assumes nothing.
use Rattle.tree.proofs.Blocks.{looking_on, looking_ends}
use Rattle.tree.proofs.in_block.Goals as goal

pub loop-n-preserved : goal.loop-n-preserved
loop-n-preserved c = looking_on c.loop-n-test.true c.loop-n.invariant

pub returns : goal.returns
returns c = looking_ends c.loop-n-test.false c.loop-n.invariant

-- `tree::middle` meets its contract: the child before the upper operator. Assumes nothing.
use Rattle.tree.proofs.Children.{child_middle}
use Rattle.tree.proofs.middle.Goals as goal

pub returns : goal.returns
returns c = child_middle c.left.ensures c.before-2.ensures

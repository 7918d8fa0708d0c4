-- `tree::left` meets its contract: the child before the last. Assumes nothing.
use Rattle.tree.proofs.Children.{child_left}
use Rattle.tree.proofs.left.Goals as goal

pub returns : goal.returns
returns c = child_left c.last.ensures c.before-2.ensures

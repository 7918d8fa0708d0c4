-- `tree::low` meets its contract: the child before the lower operator. Assumes nothing.
use Rattle.tree.proofs.Children.{child_low}
use Rattle.tree.proofs.low.Goals as goal

pub returns : goal.returns
returns c = child_low c.lower.ensures c.before-2.ensures

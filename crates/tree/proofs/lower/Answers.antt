-- `tree::lower` meets its contract: the child before the item. Assumes nothing.
use Rattle.tree.proofs.Children.{child_lower}
use Rattle.tree.proofs.lower.Goals as goal

pub returns : goal.returns
returns c = child_lower c.middle.ensures c.before-2.ensures

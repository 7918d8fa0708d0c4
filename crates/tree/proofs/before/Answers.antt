-- `tree::before` meets its contract: the size stands in the column. Assumes nothing.
use Rattle.tree.proofs.Children.{child_before}
use Rattle.tree.proofs.before.Goals as goal

pub returns : goal.returns
returns c = child_before c.index_at.ensures c.saturating_sub.ensures

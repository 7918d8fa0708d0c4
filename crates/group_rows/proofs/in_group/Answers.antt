-- `group_rows::in_group` meets its contract: what has a row passes both tests. Assumes nothing.
use Rattle.group_rows.proofs.Scan.{tells_equal}
use Rattle.group_rows.proofs.in_group.Goals as goal

pub returns-then-w-s : goal.returns-then-w-s
returns-then-w-s c = λ _ _. tells_equal c.get.result c.args.group c.get.ensures

use Rattle.clauses.proofs.Laws.{groups_refused, groups_closed}
use Rattle.parsing.proofs.Laws.{handed_on}
use Rattle.clauses.proofs.group.Goals as goal

pub returns-in_err-kind : goal.returns-in_err-kind
returns-in_err-kind c = rw (handed_on c.from_residual.ensures.1 c.in_err-kind.was) (groups_refused c.args.first
    c.requires.0 c.base.ensures c.in_err-kind.was)

pub returns : goal.returns
returns c = groups_closed c.args.first
    c.requires.0
    c.base.ensures c.in_ok-kind.was
    c.closed.ensures

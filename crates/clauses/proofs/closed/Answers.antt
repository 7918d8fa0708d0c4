use Rattle.parsing.proofs.Laws.{handed_on}
use Rattle.clauses.proofs.Laws.{closes_refused, closes_row}
use Rattle.clauses.proofs.closed.Goals as goal

pub returns-in_err-end : goal.returns-in_err-end
returns-in_err-end c = rw (handed_on c.from_residual.ensures.1 c.in_err-end.was) (closes_refused c.args.first c.expect.ensures c.in_err-end.was)

pub returns : goal.returns
returns c = closes_row c.args.first
    c.expect.ensures c.requires.0
    c.requires.1
    c.requires.2 c.in_ok-end.was
    c.put_row.ensures

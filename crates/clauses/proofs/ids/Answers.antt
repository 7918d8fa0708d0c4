use Rattle.clauses.proofs.Laws.{ids_opened, ids_listed, ids_closed}
use Rattle.parsing.proofs.Laws.{handed_on}
use Rattle.clauses.proofs.ids.Goals as goal

pub returns-in_err-opened : goal.returns-in_err-opened
returns-in_err-opened c = rw (handed_on c.from_residual.ensures.1 c.in_err-opened.was) (ids_opened c.args.label c.requires.0 c.expect.ensures c.in_err-opened.was)

pub returns-in_err-listed : goal.returns-in_err-listed
returns-in_err-listed c = rw (handed_on c.from_residual-in_err-listed.ensures.1 c.in_err-listed.was) (ids_listed c.args.label
    c.requires.0
    c.expect.ensures c.in_ok-opened.was
    c.names.ensures c.in_err-listed.was)

pub returns : goal.returns
returns c = ids_closed c.args.label
    c.requires.0
    c.expect.ensures
    c.in_ok-opened.was c.names.ensures
    c.in_ok-listed.was c.expect-2.ensures

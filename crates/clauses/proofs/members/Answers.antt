use Rattle.clauses.proofs.Laws.{list_refused, list_then}
use Rattle.parsing.proofs.Laws.{handed_on}
use Rattle.clauses.proofs.members.Goals as goal

pub returns-in_err-grouped : goal.returns-in_err-grouped
returns-in_err-grouped c = rw (handed_on c.from_residual.ensures.1 c.in_err-grouped.was) (list_refused c.groups.ensures.goes c.in_err-grouped.was)

pub returns-in_err-values : goal.returns-in_err-values
returns-in_err-values c = rw (handed_on c.from_residual-in_err-values.ensures.1 c.in_err-values.was) (list_then c.groups.ensures.goes
    c.in_ok-grouped.was (list_refused c.derivations.ensures.goes
    c.in_err-values.was))

pub returns : goal.returns
returns c = list_then c.groups.ensures.goes
    c.in_ok-grouped.was (list_then
    c.derivations.ensures.goes c.in_ok-values.was
    c.rules.ensures)

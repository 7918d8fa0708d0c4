use Rattle.clauses.proofs.Laws.{heads_refused, heads_named}
use Rattle.parsing.proofs.Laws.{handed_on}
use Rattle.clauses.proofs.head.Goals as goal

pub returns-in_err-first : goal.returns-in_err-first
returns-in_err-first c = rw (handed_on c.from_residual.ensures.1 c.in_err-first.was) (heads_refused c.requires.0 c.requires.1 c.expect.ensures c.in_err-first.was)

pub returns : goal.returns
returns c = heads_named c.requires.0 c.requires.1
    c.expect.ensures c.in_ok-first.was c.expect-2.ensures

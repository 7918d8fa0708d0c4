-- By its rule in Clauses, which takes each step's answer.
use Rattle.ebnf.proofs.Sets.{mem_one}
use Rattle.parsing.proofs.Laws.{handed_on}
use Rattle.clauses.proofs.Clauses.{enumeration_stopped, enumeration_refused, enumeration_reads}
use Rattle.clauses.proofs.enumeration.Goals as goal

pub returns-in_err-of : goal.returns-in_err-of
returns-in_err-of c = rw (handed_on c.from_residual.ensures.1 c.in_err-of.was) (enumeration_stopped c.requires.0 (mem_one _ _ c.requires.1)
    c.expect.ensures c.in_err-of.was)

pub returns-in_err-items : goal.returns-in_err-items
returns-in_err-items c = rw (handed_on c.from_residual-in_err-items.ensures.1 c.in_err-items.was) (enumeration_refused c.requires.0
    (mem_one _ _ c.requires.1)
    c.expect.ensures c.in_ok-of.was
    c.ids.ensures c.in_err-items.was)

pub returns : goal.returns
returns c = enumeration_reads c.requires.0 (mem_one _ _ c.requires.1)
    c.expect.ensures
    c.in_ok-of.was
    c.ids.ensures c.in_ok-items.was
    c.put_row.ensures

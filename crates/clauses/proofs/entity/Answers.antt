-- By its rule in Clauses, which takes each step's answer.
use Rattle.parsing.proofs.Laws.{handed_on}
use Rattle.clauses.proofs.Clauses.{entity_1, entity_2, entity_3, entity_4, entity_5, entity_reads}
use Rattle.clauses.proofs.entity.Goals as goal

pub returns-in_err-name : goal.returns-in_err-name
returns-in_err-name c = rw (handed_on c.from_residual.ensures.1 c.in_err-name.was) (entity_1 c.requires c.head.ensures c.in_err-name.was)

pub returns-in_err-supers : goal.returns-in_err-supers
returns-in_err-supers c = rw (handed_on c.from_residual-in_err-supers.ensures.1 c.in_err-supers.was) (entity_2 c.requires
    c.head.ensures c.in_ok-name.was
    c.supertypes.ensures c.in_err-supers.was)

pub returns-in_err-semicolon : goal.returns-in_err-semicolon
returns-in_err-semicolon c = rw (handed_on c.from_residual-in_err-semicolon.ensures.1 c.in_err-semicolon.was) (entity_3 c.requires
    c.head.ensures
    c.in_ok-name.was
    c.supertypes.ensures c.in_ok-supers.was
    c.expect.ensures c.in_err-semicolon.was)

pub returns-in_err-body : goal.returns-in_err-body
returns-in_err-body c = rw (handed_on c.from_residual-in_err-body.ensures.1 c.in_err-body.was) (entity_4 c.requires c.head.ensures c.in_ok-name.was c.supertypes.ensures c.in_ok-supers.was
    c.expect.ensures c.in_ok-semicolon.was
    c.members.ensures c.in_err-body.was)

pub returns-in_err-end : goal.returns-in_err-end
returns-in_err-end c = rw (handed_on c.from_residual-in_err-end.ensures.1 c.in_err-end.was) (entity_5 c.requires
    c.head.ensures c.in_ok-name.was
    c.supertypes.ensures c.in_ok-supers.was
    c.expect.ensures
    c.in_ok-semicolon.was
    c.members.ensures
    c.in_ok-body.was c.expect-2.ensures c.in_err-end.was)

pub returns : goal.returns
returns c = entity_reads c.requires
    c.head.ensures
    c.in_ok-name.was
    c.supertypes.ensures c.in_ok-supers.was c.expect.ensures c.in_ok-semicolon.was c.members.ensures
    c.in_ok-body.was c.expect-2.ensures
    c.in_ok-end.was c.closed.ensures

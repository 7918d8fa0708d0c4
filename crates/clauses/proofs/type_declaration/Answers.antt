-- By its rule in Clauses, which takes each step's answer.
use Rattle.parsing.proofs.Laws.{handed_on}
use Rattle.clauses.proofs.Clauses.{type_1, type_2, type_3, type_4, type_5, type_6, type_reads}
use Rattle.clauses.proofs.type_declaration.Goals as goal

pub returns-in_err-name : goal.returns-in_err-name
returns-in_err-name c = rw (handed_on c.from_residual.ensures.1 c.in_err-name.was) (type_1 c.requires c.head.ensures c.in_err-name.was)

pub returns-in_err-equal : goal.returns-in_err-equal
returns-in_err-equal c = rw (handed_on c.from_residual-in_err-equal.ensures.1 c.in_err-equal.was) (type_2 c.requires c.head.ensures
    c.in_ok-name.was c.expect.ensures c.in_err-equal.was)

pub returns-in_err-under : goal.returns-in_err-under
returns-in_err-under c = rw (handed_on c.from_residual-in_err-under.ensures.1 c.in_err-under.was) (type_3 c.requires
    c.head.ensures
    c.in_ok-name.was
    c.expect.ensures c.in_ok-equal.was
    c.underlying.ensures c.in_err-under.was)

pub returns-in_err-semicolon : goal.returns-in_err-semicolon
returns-in_err-semicolon c = rw (handed_on c.from_residual-in_err-semicolon.ensures.1 c.in_err-semicolon.was) (type_4 c.requires c.head.ensures
    c.in_ok-name.was
    c.expect.ensures
    c.in_ok-equal.was
    c.underlying.ensures c.in_ok-under.was
    c.expect-2.ensures c.in_err-semicolon.was)

pub returns-in_err-ruled : goal.returns-in_err-ruled
returns-in_err-ruled c = rw (handed_on c.from_residual-in_err-ruled.ensures.1 c.in_err-ruled.was) (type_5 c.requires
    c.head.ensures c.in_ok-name.was
    c.expect.ensures c.in_ok-equal.was c.underlying.ensures
    c.in_ok-under.was
    c.expect-2.ensures
    c.in_ok-semicolon.was c.rules.ensures c.in_err-ruled.was)

pub returns-in_err-end : goal.returns-in_err-end
returns-in_err-end c = rw (handed_on c.from_residual-in_err-end.ensures.1 c.in_err-end.was) (type_6 c.requires
    c.head.ensures
    c.in_ok-name.was c.expect.ensures
    c.in_ok-equal.was c.underlying.ensures c.in_ok-under.was c.expect-2.ensures
    c.in_ok-semicolon.was
    c.rules.ensures c.in_ok-ruled.was
    c.expect-3.ensures c.in_err-end.was)

pub returns : goal.returns
returns c = type_reads c.requires
    c.head.ensures
    c.in_ok-name.was
    c.expect.ensures
    c.in_ok-equal.was
    c.underlying.ensures c.in_ok-under.was c.expect-2.ensures
    c.in_ok-semicolon.was
    c.rules.ensures
    c.in_ok-ruled.was c.expect-3.ensures
    c.in_ok-end.was c.closed.ensures

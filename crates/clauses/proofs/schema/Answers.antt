-- By its rule in Clauses, which takes each step's answer.
use Rattle.parsing.proofs.Laws.{handed_on}
use Rattle.clauses.proofs.Clauses.{schema_1, schema_2, schema_3, schema_4, schema_5, schema_reads}
use Rattle.clauses.proofs.schema.Goals as goal

pub returns-in_err-name : goal.returns-in_err-name
returns-in_err-name c = rw (handed_on c.from_residual.ensures.1 c.in_err-name.was) (schema_1 c.requires c.head.ensures c.in_err-name.was)

pub returns-in_err-semicolon : goal.returns-in_err-semicolon
returns-in_err-semicolon c = rw (handed_on c.from_residual-in_err-semicolon.ensures.1 c.in_err-semicolon.was) (schema_2 c.requires c.head.ensures
    c.in_ok-name.was c.expect.ensures c.in_err-semicolon.was)

pub returns-in_err-values : goal.returns-in_err-values
returns-in_err-values c = rw (handed_on c.from_residual-in_err-values.ensures.1 c.in_err-values.was) (schema_3 c.requires
    c.head.ensures
    c.in_ok-name.was
    c.expect.ensures c.in_ok-semicolon.was
    c.constants.ensures c.in_err-values.was)

pub returns-in_err-declared : goal.returns-in_err-declared
returns-in_err-declared c = rw (handed_on c.from_residual-in_err-declared.ensures.1 c.in_err-declared.was) (schema_4 c.requires c.head.ensures c.in_ok-name.was c.expect.ensures c.in_ok-semicolon.was
    c.constants.ensures
    c.in_ok-values.was c.declarations.ensures c.in_err-declared.was)

pub returns-in_err-end : goal.returns-in_err-end
returns-in_err-end c = rw (handed_on c.from_residual-in_err-end.ensures.1 c.in_err-end.was) (schema_5 c.requires
    c.head.ensures c.in_ok-name.was
    c.expect.ensures c.in_ok-semicolon.was c.constants.ensures
    c.in_ok-values.was
    c.declarations.ensures
    c.in_ok-declared.was c.expect-2.ensures c.in_err-end.was)

pub returns : goal.returns
returns c = schema_reads c.requires
    c.head.ensures
    c.in_ok-name.was
    c.expect.ensures c.in_ok-semicolon.was
    c.constants.ensures c.in_ok-values.was
    c.declarations.ensures
    c.in_ok-declared.was c.expect-2.ensures
    c.in_ok-end.was c.closed.ensures

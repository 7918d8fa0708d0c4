-- By its rule in Clauses, which takes each step's answer.
use Rattle.parsing.proofs.Terminals.{seen_one, seen_other}
use Rattle.parsing.proofs.Laws.{handed_on}
use Rattle.clauses.proofs.Clauses.{attributes_listed, attributes_colon, attributes_optional, attributes_plain}
use Rattle.clauses.proofs.attributes.Goals as goal

pub returns-in_err-listed : goal.returns-in_err-listed
returns-in_err-listed c = rw (handed_on c.from_residual.ensures.1 c.in_err-listed.was) (attributes_listed c.requires c.names.ensures c.in_err-listed.was)

pub returns-in_err-colon : goal.returns-in_err-colon
returns-in_err-colon c = rw (handed_on c.from_residual-in_err-colon.ensures.1 c.in_err-colon.was) (attributes_colon c.requires
    c.names.ensures c.in_ok-listed.was c.expect.ensures
    c.in_err-colon.was)

pub returns-then-get_or-eq-OPTIONAL : goal.returns-then-get_or-eq-OPTIONAL
returns-then-get_or-eq-OPTIONAL c = attributes_optional c.requires c.names.ensures
    c.in_ok-listed.was
    c.expect.ensures c.in_ok-colon.was
    (seen_one c.args.terminals.now c.in_ok-colon.colon.token 112 c.get_or.ensures
    c.if-get_or-eq-OPTIONAL.true) c.group.ensures

pub returns : goal.returns
returns c = attributes_plain c.requires c.names.ensures
    c.in_ok-listed.was
    c.expect.ensures c.in_ok-colon.was
    (seen_other c.args.terminals.now c.in_ok-colon.colon.token 112 c.get_or.ensures
    c.if-get_or-eq-OPTIONAL.false) c.group-2.ensures

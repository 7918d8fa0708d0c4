-- By its rule in Clauses, which takes each step's answer.
use Rattle.parsing.proofs.Terminals.{seen_one, seen_other}
use Rattle.parsing.proofs.Laws.{handed_on}
use Rattle.clauses.proofs.Laws.{opt_absent, opt_reads}
use Rattle.clauses.proofs.Clauses.{constants_list, constants_end, constants_reads}
use Rattle.clauses.proofs.constants.Goals as goal

pub returns-then-get_or-ne-CONSTANT : goal.returns-then-get_or-ne-CONSTANT
returns-then-get_or-ne-CONSTANT c = opt_absent c.requires (seen_other c.args.terminals.now
    c.args.from.token 53 c.get_or.ensures c.if-get_or-ne-CONSTANT.true)

pub returns-in_err-list : goal.returns-in_err-list
returns-in_err-list c = rw (handed_on c.from_residual.ensures.1 c.in_err-list.was) (let t = seen_one c.args.terminals.now
    c.args.from.token 53
    c.get_or.ensures c.if-get_or-ne-CONSTANT.false in
    opt_reads c.requires t (constants_list
    c.requires t c.assignments.ensures
    c.in_err-list.was))

pub returns-in_err-end : goal.returns-in_err-end
returns-in_err-end c = rw (handed_on c.from_residual-in_err-end.ensures.1 c.in_err-end.was) (let t = seen_one c.args.terminals.now
    c.args.from.token 53
    c.get_or.ensures
    c.if-get_or-ne-CONSTANT.false in
    opt_reads c.requires t (constants_end
    c.requires t
    c.assignments.ensures c.in_ok-list.was
    c.expect.ensures c.in_err-end.was))

pub returns : goal.returns
returns c = let t = seen_one c.args.terminals.now
    c.args.from.token 53
    c.get_or.ensures
    c.if-get_or-ne-CONSTANT.false in
    opt_reads c.requires t (constants_reads
    c.requires t
    c.assignments.ensures
    c.in_ok-list.was c.expect.ensures c.in_ok-end.was
    c.expect-2.ensures)

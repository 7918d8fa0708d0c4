-- By its rule in Clauses, which takes each step's answer.
use Rattle.parsing.proofs.Terminals.{seen_one, seen_other}
use Rattle.parsing.proofs.Laws.{handed_on}
use Rattle.clauses.proofs.Laws.{refused_sound, opt_absent, opt_present}
use Rattle.clauses.proofs.Clauses.{supertypes_stopped, supertypes_go}
use Rattle.clauses.proofs.supertypes.Goals as goal

pub returns-then-get_or : goal.returns-then-get_or
returns-then-get_or c = opt_absent c.requires (seen_other c.args.terminals.now
    c.args.from.token 134 c.get_or.ensures c.if-get_or.true)

pub returns-in_err-of : goal.returns-in_err-of
returns-in_err-of c = rw (handed_on c.from_residual.ensures.1 c.in_err-of.was) (let t = seen_one c.args.terminals.now c.args.from.token 134
    c.get_or.ensures c.if-get_or.false in
    opt_present t (refused_sound c.args.terminals.now c.expect.result c.in_err-of.was)
    (supertypes_stopped t c.expect.ensures c.in_err-of.was))

pub returns : goal.returns
returns c = let t = seen_one c.args.terminals.now
    c.args.from.token 134
    c.get_or.ensures
    c.if-get_or.false in
    opt_present t c.ids.ensures.sound (supertypes_go t c.expect.ensures
    c.in_ok-of.was c.ids.ensures)

-- By its rule in Clauses, which takes each step's answer.
use Rattle.parsing.proofs.Terminals.{seen_one, seen_other}
use Rattle.clauses.proofs.Laws.{opt_absent, opt_present}
use Rattle.clauses.proofs.Clauses.{derivations_go}
use Rattle.clauses.proofs.derivations.Goals as goal

pub returns-then-get_or-ne-DERIVE : goal.returns-then-get_or-ne-DERIVE
returns-then-get_or-ne-DERIVE c = opt_absent c.requires (seen_other c.args.terminals.now
    c.args.from.token 57 c.get_or.ensures c.if-get_or-ne-DERIVE.true)

pub returns : goal.returns
returns c = let t = seen_one c.args.terminals.now
    c.args.from.token 57 c.get_or.ensures
    c.if-get_or-ne-DERIVE.false in
    opt_present t c.assignments.ensures.sound (derivations_go t c.assignments.ensures)

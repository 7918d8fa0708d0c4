-- By its rule in Clauses, which takes each step's answer.
use Rattle.parsing.proofs.Terminals.{seen_one, seen_other}
use Rattle.clauses.proofs.Laws.{opt_absent, opt_reads}
use Rattle.clauses.proofs.Clauses.{where_reads}
use Rattle.clauses.proofs.rules.Goals as goal

pub returns-then-get_or : goal.returns-then-get_or
returns-then-get_or c = opt_absent c.requires (seen_other c.args.terminals.now
    c.args.from.token 151 c.get_or.ensures c.if-get_or.true)

pub returns : goal.returns
returns c = let t = seen_one c.args.terminals.now
    c.args.from.token 151 c.get_or.ensures
    c.if-get_or.false in
    opt_reads c.requires t (where_reads c.requires t
    c.rule_list.ensures)

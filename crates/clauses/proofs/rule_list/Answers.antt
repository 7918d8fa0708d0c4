-- What was read when the loop began goes on to where it is.
use borrow.Author.Rules.{rules}
use Rattle.parsing.proofs.Laws.{handed_on, ready_of}
use Rattle.express.specs.Syntax.Grammar.{domain_rule}
use Rattle.express.specs.Syntax.Lookahead.{tables}
use Rattle.parsing.proofs.Terminals.{seen}
use Rattle.clauses.proofs.Laws.{loops_turn, loops_at, many_refused, many_ends, list_refused, list_then, reads_goes, rules_ok}
use Rattle.clauses.proofs.rule_list.Goals as goal

pub returns-in_err-at : goal.returns-in_err-at
returns-in_err-at c = rw (handed_on c.from_residual.ensures.1 c.in_err-at.was) (list_refused (reads_goes c.rule.ensures) c.in_err-at.was)

pub returns-in_err-at-2 : goal.returns-in_err-at-2
returns-in_err-at-2 c = rw (handed_on c.from_residual-in_err-at-2.ensures.1 c.in_err-at-2.was) (list_then (reads_goes c.rule.ensures)
    c.in_ok-at.was
    (many_refused (loops_turn c.loop-rows.invariant.2 rules_ok
    c.loop-rows.invariant.1 (seen
    c.args.terminals.now c.loop-rows.at.token (tables.begins domain_rule)
    c.get_or.ensures c.begins_rule.ensures
    c.loop-rows-test.true) (reads_goes c.rule-in-loop-rows.ensures)) c.in_err-at-2.was))

pub loop-rows-preserved : goal.loop-rows-preserved
loop-rows-preserved c = (
  search rules,
  ready_of c.loop-rows.invariant.1
      c.rule-in-loop-rows.ensures.ahead c.in_ok-at-2.was,
  loops_at (loops_turn c.loop-rows.invariant.2 rules_ok
      c.loop-rows.invariant.1 (seen
      c.args.terminals.now c.loop-rows.at.token (tables.begins domain_rule)
      c.get_or.ensures
      c.begins_rule.ensures c.loop-rows-test.true)
      (reads_goes c.rule-in-loop-rows.ensures)) c.in_ok-at-2.was,
)

pub returns : goal.returns
returns c = list_then (reads_goes c.rule.ensures)
    c.in_ok-at.was (many_ends c.loop-rows.invariant.2 rules_ok c.loop-rows.invariant.1 (seen
    c.args.terminals.now c.loop-rows.at.token
    (tables.begins domain_rule) c.get_or.ensures c.begins_rule.ensures c.loop-rows-test.false))

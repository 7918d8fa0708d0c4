-- What was read when the loop began goes on to where it is.
use borrow.Author.Rules.{rules}
use Rattle.parsing.proofs.Laws.{handed_on, ready_of}
use Rattle.parsing.proofs.Terminals.{seen_one, seen_other}
use Rattle.clauses.proofs.Laws.{loops_turn, loops_at, many_refused, many_ends, reads_goes, groups_ok}
use Rattle.clauses.proofs.groups.Goals as goal

pub returns-in_err-at : goal.returns-in_err-at
returns-in_err-at c = rw (handed_on c.from_residual.ensures.1 c.in_err-at.was) (many_refused (loops_turn c.loop-rows.invariant.2 groups_ok
    c.loop-rows.invariant.1 (seen_one
    c.args.terminals.now
    c.loop-rows.at.token 1 c.get_or.ensures
    c.loop-rows-test.true) (reads_goes c.attributes.ensures)) c.in_err-at.was)

pub loop-rows-preserved : goal.loop-rows-preserved
loop-rows-preserved c = (
  search rules,
  ready_of c.loop-rows.invariant.1
      c.attributes.ensures.ahead c.in_ok-at.was,
  loops_at (loops_turn c.loop-rows.invariant.2 groups_ok
      c.loop-rows.invariant.1 (seen_one
      c.args.terminals.now
      c.loop-rows.at.token 1 c.get_or.ensures
      c.loop-rows-test.true) (reads_goes c.attributes.ensures))
      c.in_ok-at.was,
)

pub returns : goal.returns
returns c = many_ends c.loop-rows.invariant.2 groups_ok c.loop-rows.invariant.1 (seen_other
    c.args.terminals.now c.loop-rows.at.token 1 c.get_or.ensures c.loop-rows-test.false)

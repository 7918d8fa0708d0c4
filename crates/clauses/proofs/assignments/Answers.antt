-- What was read when the loop began goes on to where it is.
use borrow.Author.Rules.{rules}
use mathlib.Core.Bool.{true, false}
use Rattle.parsing.proofs.Terminals.{seen_one, seen_other}
use Rattle.parsing.proofs.Laws.{handed_on, ready_of}
use Rattle.clauses.proofs.Laws.{loops_turn, loops_at, many_refused, many_ends, list_refused, list_then, reads_goes, assigned_ok, begins_at}
use Rattle.clauses.proofs.assignments.Goals as goal

pub returns-in_err-at : goal.returns-in_err-at
returns-in_err-at c = rw (handed_on c.from_residual.ensures.1 c.in_err-at.was) (list_refused (reads_goes c.assigned.ensures) c.in_err-at.was)

pub returns-in_err-at-2 : goal.returns-in_err-at-2
returns-in_err-at-2 c = rw (handed_on c.from_residual-in_err-at-2.ensures.1 c.in_err-at-2.was) (let t = begins_at c.args.terminals.now c.loop-rows.at.token
    c.args.label true
    c.requires.1 (seen_one
    c.args.terminals.now
    c.loop-rows.at.token 1 c.get_or.ensures
    c.loop-rows-test.true) in
    list_then (reads_goes c.assigned.ensures)
    c.in_ok-at.was
    (many_refused (loops_turn c.loop-rows.invariant.2 (assigned_ok
    c.args.label
    c.requires.1)
    c.loop-rows.invariant.1 t (reads_goes c.assigned-in-loop-rows.ensures))
    c.in_err-at-2.was))

pub loop-rows-preserved : goal.loop-rows-preserved
loop-rows-preserved c = let t = begins_at c.args.terminals.now c.loop-rows.at.token
    c.args.label true c.requires.1 (seen_one c.args.terminals.now c.loop-rows.at.token 1
    c.get_or.ensures c.loop-rows-test.true) in (
      search rules,
      ready_of c.loop-rows.invariant.1
          c.assigned-in-loop-rows.ensures.ahead c.in_ok-at-2.was,
      loops_at (loops_turn c.loop-rows.invariant.2 (assigned_ok
          c.args.label
          c.requires.1)
          c.loop-rows.invariant.1 t (reads_goes c.assigned-in-loop-rows.ensures))
          c.in_ok-at-2.was,
    )

pub returns : goal.returns
returns c = list_then (reads_goes c.assigned.ensures) c.in_ok-at.was
    (many_ends c.loop-rows.invariant.2 (assigned_ok c.args.label
    c.requires.1) c.loop-rows.invariant.1
    (begins_at c.args.terminals.now c.loop-rows.at.token
    c.args.label false
    c.requires.1 (seen_other
    c.args.terminals.now c.loop-rows.at.token 1
    c.get_or.ensures c.loop-rows-test.false)))

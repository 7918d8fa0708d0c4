-- What was read when the loop began goes on to where it is.
use borrow.Author.Rules.{rules}
use native.Mathlib.Omega.{arith}
use Rattle.parsing.proofs.Terminals.{seen_one, seen_other}
use Rattle.parsing.proofs.Steps.{onward, one_inside}
use Rattle.clauses.proofs.Laws.{sound_ready, loops_turn, loops_at, many_refused, many_ends, list_refused, list_then, leaf_goes, comma_goes, names_ok}
use Rattle.parsing.proofs.Laws.{handed_on}
use Rattle.clauses.proofs.names.Goals as goal

pub returns-in_err-at : goal.returns-in_err-at
returns-in_err-at c = rw (handed_on c.from_residual.ensures.1 c.in_err-at.was) (list_refused (leaf_goes c.requires.1
    c.requires.0 c.id.ensures) c.in_err-at.was)

pub returns-in_err-at-2 : goal.returns-in_err-at-2
returns-in_err-at-2 c = rw (handed_on c.from_residual-in_err-at-2.ensures.1 c.in_err-at-2.was) (let t = seen_one c.args.terminals.now c.loop-at.at.token 8
    c.get_or.ensures c.loop-at-test.true in
    let l = one_inside c.args.terminals.now c.loop-at.at.token c.get_or.result 8
    c.get_or.ensures c.loop-at-test.true (omega arith) in
    list_then (leaf_goes c.requires.1 c.requires.0
    c.id.ensures)
    c.in_ok-at.was
    (many_refused (loops_turn c.loop-at.invariant.2 (names_ok
    c.args.label)
    c.loop-at.invariant.1 t (comma_goes
    c.requires.1 (onward
    c.loop-at.invariant.1 l) t c.id-in-loop-at.ensures)) c.in_err-at-2.was))

pub loop-at-preserved : goal.loop-at-preserved
loop-at-preserved c = let t = seen_one c.args.terminals.now c.loop-at.at.token 8
    c.get_or.ensures c.loop-at-test.true in
    let l = one_inside c.args.terminals.now c.loop-at.at.token
    c.get_or.result 8 c.get_or.ensures
    c.loop-at-test.true (omega arith) in (
      search rules,
      sound_ready c.id-in-loop-at.result c.id-in-loop-at.ensures.sound c.in_ok-at-2.was,
      loops_at (loops_turn c.loop-at.invariant.2 (names_ok
          c.args.label)
          c.loop-at.invariant.1 t (comma_goes
          c.requires.1
          (onward c.loop-at.invariant.1 l) t c.id-in-loop-at.ensures))
          c.in_ok-at-2.was,
    )

pub returns : goal.returns
returns c = list_then (leaf_goes c.requires.1
    c.requires.0
    c.id.ensures) c.in_ok-at.was
    (many_ends c.loop-at.invariant.2 (names_ok c.args.label)
    c.loop-at.invariant.1 (seen_other c.args.terminals.now
    c.loop-at.at.token 8 c.get_or.ensures c.loop-at-test.false))

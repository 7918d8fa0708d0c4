-- What was read when the loop began goes on to where it is.
use borrow.Author.Rules.{rules}
use Rattle.parsing.proofs.Laws.{handed_on, ready_of}
use mathlib.Core.List.{◌++◌}
use Rattle.express.specs.Tokens.Terminal.{ENTITY, TYPE}
use Rattle.clauses.proofs.Clauses.{declared_reads}
use Rattle.parsing.proofs.Terminals.{seen}
use Rattle.clauses.proofs.Laws.{loops_turn, loops_at, many_refused, many_ends, declarations_ok}
use Rattle.clauses.proofs.declarations.Goals as goal

pub returns-in_err-at : goal.returns-in_err-at
returns-in_err-at c = rw (handed_on c.from_residual.ensures.1 c.in_err-at.was) (many_refused (loops_turn c.loop-rows.invariant.2 declarations_ok
    c.loop-rows.invariant.1 (seen
    c.args.terminals.now
    c.loop-rows.at.token (TYPE ++ ENTITY)
    c.get_or.ensures c.begins_declaration.ensures
    c.loop-rows-test.true) (declared_reads c.declaration.ensures)) c.in_err-at.was)

pub loop-rows-preserved : goal.loop-rows-preserved
loop-rows-preserved c = (
  search rules,
  ready_of c.loop-rows.invariant.1
      c.declaration.ensures.ahead c.in_ok-at.was,
  loops_at (loops_turn c.loop-rows.invariant.2 declarations_ok
      c.loop-rows.invariant.1 (seen
      c.args.terminals.now
      c.loop-rows.at.token (TYPE ++ ENTITY)
      c.get_or.ensures
      c.begins_declaration.ensures c.loop-rows-test.true)
      (declared_reads c.declaration.ensures)) c.in_ok-at.was,
)

pub returns : goal.returns
returns c = many_ends c.loop-rows.invariant.2 declarations_ok c.loop-rows.invariant.1 (seen
    c.args.terminals.now c.loop-rows.at.token (TYPE ++ ENTITY) c.get_or.ensures
    c.begins_declaration.ensures c.loop-rows-test.false)

-- `schemas::evaluate_schema` meets its contract: what each constant names has passed before it. Assumes nothing.
use borrow.Author.Rules.{rules}
use Rattle.schemas.proofs.Passing.{passing_starts, passing_same, passing_other, passing_due, passing_ends}
use Rattle.schemas.proofs.evaluate_schema.Goals as goal
use Rattle.schemas.proofs.evaluate_schema.Goals.{then-is_due, else-is_due}

pub loop-declaration-init : goal.loop-declaration-init
loop-declaration-init c = passing_starts

pub loop-declaration-preserved : goal.loop-declaration-preserved
loop-declaration-preserved c =
    elim c.if-is_due.branch [
      | then-is_due w ↦
          passing_same w.answer_kinds-is w.answer_numbers-is w.answer_lengths-is w.value_kinds-is w.value_numbers-is w.value_lengths-is w.room-is
          (passing_due c.loop-declaration.invariant c.loop-declaration-test.true c.index-d.ensures c.is_due.ensures w.if-is_due.true w.fill_constant.ensures
          (search rules) (search rules) (search rules) (search rules) (search rules) (search rules) (search rules))
      | else-is_due w ↦
          passing_same w.answer_kinds-is w.answer_numbers-is w.answer_lengths-is w.value_kinds-is w.value_numbers-is w.value_lengths-is w.room-is
          (passing_other c.loop-declaration.invariant c.loop-declaration-test.true c.index-d.ensures c.is_due.ensures w.if-is_due.false)
    ]

pub returns : goal.returns
returns c = passing_ends c.loop-declaration.invariant c.loop-declaration-test.false

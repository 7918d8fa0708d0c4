-- `schemas::measure_constants` meets its contract: what each string names has passed before it. Assumes nothing.
use borrow.Author.Rules.{rules}
use Rattle.schemas.proofs.Measuring.{measuring_starts, measuring_same, measuring_other, measuring_due, measuring_ends}
use mathlib.Core.Path.{refl}
use Rattle.schemas.proofs.measure_constants.Goals as goal
use Rattle.schemas.proofs.measure_constants.Goals.{then-is_due, else-is_due}

pub loop-declaration-init : goal.loop-declaration-init
loop-declaration-init c = measuring_starts

pub loop-declaration-preserved : goal.loop-declaration-preserved
loop-declaration-preserved c =
    elim c.if-is_due.branch [
      | then-is_due w ↦
          measuring_same w.answer_kinds-is w.answer_numbers-is w.answer_lengths-is w.value_kinds-is w.value_numbers-is w.value_lengths-is
          (measuring_due c.loop-declaration.invariant c.loop-declaration-test.true c.index-d.ensures refl c.is_due.ensures w.if-is_due.true w.measure_constant.ensures
          (search rules) (search rules) (search rules) (search rules) (search rules) (search rules))
      | else-is_due w ↦
          measuring_same w.answer_kinds-is w.answer_numbers-is w.answer_lengths-is w.value_kinds-is w.value_numbers-is w.value_lengths-is
          (measuring_other c.loop-declaration.invariant c.loop-declaration-test.true c.index-d.ensures refl c.is_due.ensures w.if-is_due.false)
    ]

pub returns : goal.returns
returns c = measuring_ends c.loop-declaration.invariant c.loop-declaration-test.false

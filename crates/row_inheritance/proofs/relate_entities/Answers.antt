-- `row_inheritance::relate_entities` meets its contract. Assumes nothing.
use mathlib.Core.Path.{refl, sym}
use native.Mathlib.Omega.{arith}
use lib.Seq.{length-take-le}
use Rattle.row_inheritance.proofs.Relating.{rows_fit, relates_none, relates_some}
use Rattle.row_inheritance.proofs.relate_entities.Goals as goal

pub overflow_mul-needed : goal.overflow_mul-needed
overflow_mul-needed c = record { fits = rows_fit refl (omega (arith, c.requires)) }

pub returns-then-rows-needed : goal.returns-then-rows-needed
returns-then-rows-needed c = relates_none

pub slice_bounds-relate-end-2 : goal.slice_bounds-relate-end-2
slice_bounds-relate-end-2 c = sym (length-take-le _ c.args.rows.now c.if-rows-needed.false)

pub returns-then-relate : goal.returns-then-relate
returns-then-relate c = relates_some _ refl c.requires.0 c.requires.1 c.requires.3 c.relate.ensures c.if-relate.true c.relate.auto.rows (length-take-le _ c.args.rows.now c.if-rows-needed.false)

pub returns-else-relate : goal.returns-else-relate
returns-else-relate c = relates_none

-- `constant_rows::number_rows` meets its contract: up to the next constant all nodes have one row. Assumes nothing.
use borrow.Author.Rules.{rules}
use mathlib.Core.Path.{refl}
use Rattle.constant_rows.proofs.Numbering.{numbering_starts, numbering_run, numbering_ends}
use Rattle.tree.proofs.Next.{next_beyond}
use native.Mathlib.Omega.{arith}
use Rattle.constant_rows.proofs.number_rows.Goals as goal

pub loop-n-init : goal.loop-n-init
loop-n-init c = numbering_starts

pub overflow_sub-kinds : goal.overflow_sub-kinds
overflow_sub-kinds c = omega (arith, c.loop-n-test.true)

pub overflow_add-end : goal.overflow_add-end
overflow_add-end c = omega (arith, c.min-end.ensures, c.well_formed)

pub overflow_add-rows : goal.overflow_add-rows
overflow_add-rows c = omega (
  arith,
  c.loop-n.invariant.few,
  c.loop-n.invariant.low,
  c.well_formed,
)

pub loop-n-smaller : goal.loop-n-smaller
loop-n-smaller c = let h = next_beyond _ _ _ c.next_of_kind-constant.ensures in omega (
  arith,
  h,
  c.min-end.ensures,
  c.loop-n-test.true,
)

pub loop-n-preserved : goal.loop-n-preserved
loop-n-preserved c = numbering_run c.loop-n.invariant c.loop-n-test.true c.next_of_kind-constant.ensures c.min-end.ensures
    refl c.number.ensures c.fill.ensures (search rules)

pub shape_of-row_of : goal.shape_of-row_of
shape_of-row_of c = c.loop-n.invariant.len

pub returns : goal.returns
returns c = numbering_ends c.loop-n.invariant c.loop-n-test.false

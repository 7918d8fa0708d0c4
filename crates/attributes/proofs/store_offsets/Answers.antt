-- `attributes::store_offsets` meets its contract. Assumes nothing.
use mathlib.Core.Path.{◌∙◌}
use native.Mathlib.Omega.{arith}
use Rattle.graph.proofs.Store.{zeros}
use Rattle.attributes.proofs.Offsetting.{offsetting_starts, offsetting_ends, offsetting_goes}
use Rattle.attributes.proofs.store_offsets.Goals as goal

pub loop-v-init : goal.loop-v-init
loop-v-init c = offsetting_starts (zeros c.args.table.now _ c.clear.ensures)

pub overflow_add-base : goal.overflow_add-base
overflow_add-base c = omega (
  arith,
  c.saturating_sub-base.ensures,
  c.loop-v.invariant.upto,
  c.loop-v-test.true,
  c.ranges.offsets,
  c.well_formed,
)

pub loop-v-preserved : goal.loop-v-preserved
loop-v-preserved c = let s = c.start.ensures in
    offsetting_goes c.loop-v.invariant c.loop-v-test.true c.saturating_sub-declarations.ensures c.saturating_sub-base.ensures (rw s at c.back-e.ensures) c.number.ensures c.put.ensures

pub shape_of-table : goal.shape_of-table
shape_of-table c = c.loop-v.invariant.long ∙ c.clear.auto.column

pub returns : goal.returns
returns c = offsetting_ends c.loop-v.invariant c.clear.auto.column c.loop-v-test.false

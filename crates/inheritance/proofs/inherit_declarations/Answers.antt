-- `inheritance::inherit_declarations` meets its contract. Assumes nothing.
use mathlib.Core.Path.{◌∙◌}
use native.Mathlib.Omega.{arith}
use Rattle.graph.proofs.Store.{zeros}
use Rattle.inheritance.proofs.Doing.{doing_starts, doing_goes, doing_ends, inherits_none}
use Rattle.inheritance.proofs.inherit_declarations.Goals as goal

pub returns-then-end-eq0 : goal.returns-then-end-eq0
returns-then-end-eq0 c = inherits_none c.inheriting-end.ensures c.if-end-eq0.true

pub loop-v-init : goal.loop-v-init
loop-v-init c = doing_starts c.inheriting-end.ensures c.store_offsets.ensures c.store_offsets.auto.table (zeros c.args.mark.now _ c.clear.ensures)

pub inherit_in-requires : goal.inherit_in-requires
inherit_in-requires c = omega (arith, c.loop-v-test.true, c.loop-v.invariant.within)

pub loop-v-preserved : goal.loop-v-preserved
loop-v-preserved c = doing_goes c.loop-v.invariant c.loop-v-test.true c.inherit_in.ensures c.inherit_in.auto.table c.inherit_in.auto.mark
    c.inherit_in.auto.queue c.inherit_in.auto.bound

pub shape_of-table : goal.shape_of-table
shape_of-table c = c.loop-v.invariant.table_long ∙ c.store_offsets.auto.table

pub shape_of-mark : goal.shape_of-mark
shape_of-mark c = c.loop-v.invariant.mark_long ∙ c.clear.auto.column

pub shape_of-queue : goal.shape_of-queue
shape_of-queue c = c.loop-v.invariant.queue_long

pub shape_of-bound : goal.shape_of-bound
shape_of-bound c = c.loop-v.invariant.bound_long

pub returns : goal.returns
returns c = doing_ends c.loop-v.invariant c.store_offsets.auto.table c.clear.auto.column c.loop-v-test.false

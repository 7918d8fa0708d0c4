-- `row_inheritance::store_declarations` meets its contract. Assumes nothing.
use mathlib.Core.Path.{sym, ◌∙◌}
use Rattle.row_inheritance.proofs.Storing.{descending_starts, descending_ends, descending_skip, descending_more}
use Rattle.row_inheritance.proofs.store_declarations.Goals as goal

pub loop-v-init : goal.loop-v-init
loop-v-init c = descending_starts c.saturating_sub-v.ensures

pub loop-v-preserved-then-inherits : goal.loop-v-preserved-then-inherits
loop-v-preserved-then-inherits c = descending_more c.loop-v.invariant c.loop-v-test.true c.declaration-extent.ensures (sym c.inherits.ensures ∙ c.if-inherits.true) c.get_or-rank.ensures c.row_start-base.ensures c.store_found.ensures c.store_found.auto.bound

pub loop-v-preserved : goal.loop-v-preserved
loop-v-preserved c = descending_skip c.loop-v.invariant c.loop-v-test.true c.declaration-extent.ensures (sym c.inherits.ensures ∙ c.if-inherits.false)

pub shape_of-bound : goal.shape_of-bound
shape_of-bound c = c.loop-v.invariant.long

pub returns : goal.returns
returns c = descending_ends c.loop-v.invariant c.loop-v-test.false

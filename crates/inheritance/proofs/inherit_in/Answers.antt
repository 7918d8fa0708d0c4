-- `inheritance::inherit_in` meets its contract. Assumes nothing.
use mathlib.Core.Path.{sym, ◌∙◌}
use native.Mathlib.Omega.{arith}
use Rattle.inheritance.proofs.Doing.{inherits_in_none, inherits_in_more}
use Rattle.inheritance.proofs.inherit_in.Goals as goal

pub overflow_add-v : goal.overflow_add-v
overflow_add-v c = omega (
  arith,
  c.requires,
  c.well_formed,
)

pub shape_of-table : goal.shape_of-table
shape_of-table c = c.collect_queued.auto.table

pub shape_of-mark : goal.shape_of-mark
shape_of-mark c = c.search-reached.auto.mark

pub shape_of-queue : goal.shape_of-queue
shape_of-queue c = c.search-reached.auto.queue

pub shape_of-bound : goal.shape_of-bound
shape_of-bound c = c.store_inherited.auto.bound

pub returns-then-inherits : goal.returns-then-inherits
returns-then-inherits c = inherits_in_more c.declaration-extent.ensures (sym c.inherits.ensures ∙ c.if-inherits.true) c.number-stamp.ensures c.search-reached.ensures c.collect_queued.ensures c.collect_queued.auto.table c.store_inherited.ensures

pub returns-else-inherits : goal.returns-else-inherits
returns-else-inherits c = inherits_in_none c.declaration-extent.ensures (sym c.inherits.ensures ∙ c.if-inherits.false)

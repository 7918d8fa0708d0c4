-- `graph::search` meets its contract. Assumes nothing.
use Rattle.graph.proofs.Mark.{front_start, front_step, front_end, head_low}
use mathlib.Core.Path.{◌∙◌}
use native.Mathlib.Omega.{arith}
use Rattle.graph.proofs.search.Goals as goal

pub loop-head-init : goal.loop-head-init
loop-head-init c = front_start c.expand-tail.ensures

pub expand-tail-requires-in-loop-head : goal.expand-tail-requires-in-loop-head
expand-tail-requires-in-loop-head c = c.loop-head.invariant.ends

pub overflow_add-head : goal.overflow_add-head
overflow_add-head c = omega (
  arith,
  head_low c.loop-head.invariant c.loop-head-test.true,
  c.expand-tail.auto.mark,
)

pub loop-head-smaller : goal.loop-head-smaller
loop-head-smaller c = omega (
  arith,
  head_low c.loop-head.invariant c.loop-head-test.true,
)

pub loop-head-preserved : goal.loop-head-preserved
loop-head-preserved c = front_step c.loop-head.invariant _ c.loop-head-test.true (c.index-u.ensures ∙ c.get_or.ensures) c.expand-tail-in-loop-head.ensures c.expand-tail-in-loop-head.auto.mark c.expand-tail-in-loop-head.auto.queue

pub shape_of-mark : goal.shape_of-mark
shape_of-mark c = c.loop-head.invariant.mark_long ∙ c.expand-tail.auto.mark

pub shape_of-queue : goal.shape_of-queue
shape_of-queue c = c.loop-head.invariant.queue_long ∙ c.expand-tail.auto.queue

pub returns : goal.returns
returns c = front_end c.loop-head.invariant c.expand-tail.ensures c.loop-head-test.false

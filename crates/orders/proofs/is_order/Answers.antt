-- `orders::is_order` meets its contract. Assumes nothing.
use mathlib.Core.Path.{sym, ◌∙◌}
use native.Mathlib.Omega.{arith}
use Rattle.orders.proofs.Placing.{places_start, places_step, places_end}
use Rattle.orders.proofs.is_order.Goals as goal

pub loop-v-init : goal.loop-v-init
loop-v-init c = places_start

pub loop-v-preserved : goal.loop-v-preserved
loop-v-preserved c = places_step c.loop-v.invariant c.at-p.ensures.0 c.at-w.ensures.0 c.if-n-p.false c.if-n-w.false
    (sym c.at.ensures.0 ∙ c.if-at-v.false) (sym c.at-else-at-v.ensures.0 ∙ c.if-at-v-2.false)
    (rw (← c.at-else-at-v-2.ensures.0, ← c.at-else-at-v-2-2.ensures.0) (c.lead_before.ensures c.if-not-lead_before.false))

pub returns : goal.returns
returns c = λ _. places_end c.loop-v.invariant (omega arith) c.loop-v-test.false

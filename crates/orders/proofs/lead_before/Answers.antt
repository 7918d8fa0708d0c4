-- `orders::lead_before` meets its contract. Assumes nothing.
use Rattle.orders.proofs.Placing.{fallen_start, fallen_step, fallen_end, never}
use Rattle.orders.proofs.lead_before.Goals as goal

pub loop-e-init : goal.loop-e-init
loop-e-init c = fallen_start

pub returns-then-p-at : goal.returns-then-p-at
returns-then-p-at c = never

pub loop-e-preserved : goal.loop-e-preserved
loop-e-preserved c = fallen_step c.loop-e.invariant c.at.ensures.0 c.at-in-loop-e.ensures.0 c.if-p-at.false

pub returns : goal.returns
returns c = λ _. fallen_end c.loop-e.invariant c.loop-e-test.false

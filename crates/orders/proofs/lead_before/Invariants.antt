use Rattle.orders.proofs.Placing.{Fallen}
use Rattle.orders.proofs.lead_before.Given as goal

abbrev pub invariant-loop-e : goal.invariant-loop-e
invariant-loop-e l = Fallen l.to l.s l.p l.from l.e

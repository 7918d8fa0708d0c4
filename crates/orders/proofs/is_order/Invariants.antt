use Rattle.orders.specs.Places.{Places}
use Rattle.orders.proofs.is_order.Given as goal

abbrev pub invariant-loop-v : goal.invariant-loop-v
invariant-loop-v l = Places l.first l.to l.n l.s l.v

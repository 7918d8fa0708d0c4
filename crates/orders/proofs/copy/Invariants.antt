use lib.ListN.{length}
use Rattle.orders.proofs.Placing.{Copying}
use Rattle.orders.proofs.copy.Given as goal

abbrev pub invariant-loop-k : goal.invariant-loop-k
invariant-loop-k l = Copying l.s l.n (length l.initial.order) l.order l.k

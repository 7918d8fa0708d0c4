use Rattle.graph.proofs.Mark.{Going}
use Rattle.graph.proofs.expand.Given as goal

abbrev pub invariant-loop-e : goal.invariant-loop-e
invariant-loop-e l = Going l.first l.to l.u l.stamp l.initial.mark l.initial.queue l.tail l.end l.mark l.queue l.e l.t

use Rattle.graph.proofs.Mark.{Front}
use Prim.Native.Nat.{◌-◌}
use lib.ListN.{length}
use Rattle.graph.proofs.search.Given as goal

abbrev pub invariant-loop-head : goal.invariant-loop-head
invariant-loop-head l = Front l.first l.to l.from l.stamp l.initial.mark l.initial.queue l.initial.tail l.mark l.queue l.tail l.head

abbrev pub decreases-loop-head : goal.decreases-loop-head
decreases-loop-head l = length l.initial.mark - l.head

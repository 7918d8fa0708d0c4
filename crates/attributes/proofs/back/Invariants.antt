use Rattle.attributes.proofs.Offsetting.{Backing}
use Rattle.attributes.proofs.back.Given as goal

abbrev pub invariant-loop-e : goal.invariant-loop-e
invariant-loop-e l = Backing l.entry_nodes l.low l.hi l.from l.e

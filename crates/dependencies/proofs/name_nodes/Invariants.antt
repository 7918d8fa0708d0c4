use Rattle.dependencies.proofs.Naming.{Naming}
use Rattle.dependencies.proofs.name_nodes.Given as goal

abbrev pub invariant-loop-k : goal.invariant-loop-k
invariant-loop-k l = Naming l.nodes l.vertices l.initial.order l.order l.k

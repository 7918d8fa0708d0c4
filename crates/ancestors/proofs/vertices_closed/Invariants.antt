use Rattle.ancestors.proofs.Steps.{Testing}
use Rattle.ancestors.proofs.vertices_closed.Given as goal

abbrev pub invariant-loop-v : goal.invariant-loop-v
invariant-loop-v l = Testing l.graph.first.now l.graph.to.now l.graph.ranks.now l.graph.width l.rows l.v

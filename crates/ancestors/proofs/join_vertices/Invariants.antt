use Rattle.ancestors.proofs.Steps.{Placing}
use Rattle.ancestors.proofs.join_vertices.Given as goal

abbrev pub invariant-loop-vertex : goal.invariant-loop-vertex
invariant-loop-vertex l = Placing l.graph.first.now l.graph.to.now l.graph.ranks.now l.order l.graph.width l.initial.rows l.rows l.vertex-index

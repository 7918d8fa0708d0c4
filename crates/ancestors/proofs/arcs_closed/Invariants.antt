use Rattle.ancestors.proofs.Steps.{Closing}
use Rattle.ancestors.proofs.arcs_closed.Given as goal

abbrev pub invariant-loop-e : goal.invariant-loop-e
invariant-loop-e l = Closing l.graph.to.now l.graph.ranks.now l.graph.width l.rank l.from l.end l.rows l.e

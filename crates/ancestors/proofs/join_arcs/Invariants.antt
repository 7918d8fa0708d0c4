use Rattle.ancestors.proofs.Steps.{Joining}
use Rattle.ancestors.proofs.join_arcs.Given as goal

abbrev pub invariant-loop-e : goal.invariant-loop-e
invariant-loop-e l = Joining l.graph.to.now l.graph.ranks.now l.graph.width l.rank l.from l.end l.initial.rows l.rows l.e

use Rattle.ancestors.proofs.Steps.{Containing}
use Rattle.ancestors.proofs.contains.Given as goal

abbrev pub invariant-loop-k : goal.invariant-loop-k
invariant-loop-k l = Containing l.rows l.into l.from l.width l.k

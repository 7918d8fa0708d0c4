use Rattle.ancestors.proofs.Steps.{Merging}
use Rattle.ancestors.proofs.merge.Given as goal

abbrev pub invariant-loop-k : goal.invariant-loop-k
invariant-loop-k l = Merging l.initial.rows l.into l.from l.width l.rows l.k

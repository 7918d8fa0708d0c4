use Rattle.inheritance.specs.Steps.{NoneInherits}
use Rattle.inheritance.proofs.inheriting.Given as goal

abbrev pub invariant-loop-v : goal.invariant-loop-v
invariant-loop-v l = NoneInherits l.file.entries.kinds.now l.file.entries.nodes.now l.file.first.now l.v

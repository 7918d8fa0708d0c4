use Rattle.attribute_chains.proofs.Entering.{Entering}
use Rattle.attribute_chains.proofs.enter_entries.Given as goal

abbrev pub invariant-loop-e : goal.invariant-loop-e
invariant-loop-e l = Entering l.entries.kinds.now l.entries.keys.now l.entries.nodes.now l.lo l.hi l.rank l.before l.initial.heads l.initial.pairs l.heads l.pairs l.count l.e

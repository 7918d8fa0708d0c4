use Rattle.attributes.proofs.Collecting.{Adding}
use Rattle.attributes.proofs.collect_entries.Given as goal

abbrev pub invariant-loop-e : goal.invariant-loop-e
invariant-loop-e l = Adding l.entries.kinds.now l.entries.keys.now l.entries.nodes.now l.lo l.hi l.stamp l.initial.table l.table l.e

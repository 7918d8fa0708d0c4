use Rattle.attributes.proofs.Collecting.{Collecting}
use Rattle.attributes.proofs.collect_queued.Given as goal

abbrev pub invariant-loop-k : goal.invariant-loop-k
invariant-loop-k l = Collecting l.entries.kinds.now l.entries.keys.now l.entries.nodes.now l.queue l.queued l.offsets l.stamp l.initial.table
    l.table l.k

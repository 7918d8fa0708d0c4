use Rattle.attributes.proofs.Offsetting.{Offsetting}
use Rattle.attributes.proofs.store_offsets.Given as goal

abbrev pub invariant-loop-v : goal.invariant-loop-v
invariant-loop-v l = Offsetting l.entry_nodes l.offsets l.initial.table l.table l.e l.v

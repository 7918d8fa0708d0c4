use Rattle.cycles.proofs.Scan.{Numbering}
use Rattle.cycles.proofs.number_groups.Given as goal

abbrev pub invariant-loop-v : goal.invariant-loop-v
invariant-loop-v l = Numbering l.initial.group l.s l.n l.group l.v

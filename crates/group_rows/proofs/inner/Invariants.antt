use Rattle.group_rows.proofs.Scan.{Looking}
use Rattle.group_rows.proofs.inner.Given as goal

abbrev pub invariant-loop-e : goal.invariant-loop-e
invariant-loop-e l = Looking l.first l.to l.s l.v l.own l.end l.e

use Rattle.group_rows.proofs.Scan.{Arranging}
use Rattle.group_rows.proofs.arrange.Given as goal

abbrev pub invariant-loop-v : goal.invariant-loop-v
invariant-loop-v l = Arranging l.initial.order l.s l.n l.order l.v

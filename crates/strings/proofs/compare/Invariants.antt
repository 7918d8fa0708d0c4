use Rattle.strings.proofs.Laws.{Compares}
use Rattle.strings.proofs.compare.Given as goal

abbrev pub invariant-loop-i : goal.invariant-loop-i
invariant-loop-i l = Compares l.a l.b l.i

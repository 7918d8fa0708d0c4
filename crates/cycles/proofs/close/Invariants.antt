use Rattle.cycles.proofs.ClosingLoop.{Closes}
use Rattle.cycles.proofs.close.Given as goal

abbrev pub invariant-loop-i : goal.invariant-loop-i
invariant-loop-i l = Closes l.initial.s l.from l.height l.finished l.s l.i

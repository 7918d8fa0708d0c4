use Rattle.columns.proofs.Laws.{Clearing}
use Rattle.columns.proofs.clear.Given as goal

abbrev pub invariant-loop-i : goal.invariant-loop-i
invariant-loop-i g l = Clearing l.zero l.initial.column l.from l.column l.i

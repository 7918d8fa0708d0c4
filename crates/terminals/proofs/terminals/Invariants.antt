use Rattle.terminals.proofs.Columns.{Progress}
use Rattle.terminals.proofs.terminals.Given as goal

abbrev pub invariant-loop-i : goal.invariant-loop-i
invariant-loop-i l = Progress l.src l.kinds l.starts l.lengths l.initial.out l.out l.i

use Rattle.string_bytes.proofs.Writing.{Copied}
use Rattle.string_bytes.proofs.copy_bytes.Given as goal

abbrev pub invariant-loop-i : goal.invariant-loop-i
invariant-loop-i l = Copied l.from l.start l.size l.initial.out l.at l.out l.i

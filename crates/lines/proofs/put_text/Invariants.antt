use Rattle.lines.proofs.Pieces.{Copying, same}
use Rattle.lines.proofs.put_text.Given as goal

abbrev pub invariant-loop-i : goal.invariant-loop-i
invariant-loop-i l = Copying same l.text l.initial.out l.at l.out l.i

use Rattle.express.specs.Tokens.Bytes.{lower}
use Rattle.lines.proofs.Pieces.{Copying}
use Rattle.lines.proofs.put_lower.Given as goal

abbrev pub invariant-loop-i : goal.invariant-loop-i
invariant-loop-i l = Copying lower l.text l.initial.out l.at l.out l.i

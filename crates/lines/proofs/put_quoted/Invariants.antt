use Rattle.lines.proofs.Strings.{Quoting}
use Rattle.lines.proofs.put_quoted.Given as goal

abbrev pub invariant-loop-byte : goal.invariant-loop-byte
invariant-loop-byte l = Quoting l.text l.initial.out l.at l.out l.byte-index l.next

use Rattle.literals.proofs.Numerals.{Few}
use Rattle.literals.proofs.few_bits.Given as goal

abbrev pub invariant-loop-b : goal.invariant-loop-b
invariant-loop-b l = Few l.bits l.b-index l.v

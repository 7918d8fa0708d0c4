use Rattle.spellings.proofs.Spellings.{Stirring}
use Rattle.spellings.proofs.long_hash.Given as goal

abbrev pub invariant-loop-b : goal.invariant-loop-b
invariant-loop-b l = Stirring l.word l.h l.b-index

use Rattle.spellings.proofs.Spellings.{Hashing}
use lib.ListN.{length}
use Prim.Native.Nat.{◌-◌}
use Rattle.spellings.proofs.hash.Given as goal

abbrev pub invariant-loop-i : goal.invariant-loop-i
invariant-loop-i l = Hashing l.word l.h l.i

abbrev pub decreases-loop-i : goal.decreases-loop-i
decreases-loop-i l = length l.word - l.i

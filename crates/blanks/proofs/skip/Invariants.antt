use Prim.Native.Nat.{◌-◌}
use lib.ListN.{length}
use Rattle.express.specs.Tokens.Lexis.{skipped}
use Rattle.blanks.proofs.Skipping.{Left}
use Rattle.blanks.proofs.skip.Given as goal

abbrev pub invariant-loop-i : goal.invariant-loop-i
invariant-loop-i l = Left l.s l.i (skipped l.s l.at)

abbrev pub decreases-loop-i : goal.decreases-loop-i
decreases-loop-i l = length l.s - l.i

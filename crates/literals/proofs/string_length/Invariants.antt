use Rattle.literals.proofs.Strings.{Counted}
use lib.ListN.{length}
use Prim.Native.Nat.{◌-◌}
use Rattle.literals.proofs.string_length.Given as goal

abbrev pub invariant-loop-i : goal.invariant-loop-i
invariant-loop-i l = Counted l.text l.i l.n

abbrev pub decreases-loop-i : goal.decreases-loop-i
decreases-loop-i l = length l.text - l.i

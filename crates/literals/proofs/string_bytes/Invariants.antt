use Prim.Native.Nat.{◌-◌}
use lib.ListN.{length}
use Rattle.literals.proofs.Strings.{Written}
use Rattle.literals.proofs.string_bytes.Given as goal

abbrev pub invariant-loop-i : goal.invariant-loop-i
invariant-loop-i l = Written l.text l.initial.out l.at l.out l.i l.n

abbrev pub decreases-loop-i : goal.decreases-loop-i
decreases-loop-i l = length l.text - l.i

use Rattle.spellings.proofs.Blocks.{Comparing}
use Prim.Native.Nat.{◌-◌}
use Rattle.spellings.proofs.surely_alike.Given as goal

abbrev pub invariant-loop-i : goal.invariant-loop-i
invariant-loop-i l = Comparing l.s l.p l.q l.n l.i

abbrev pub decreases-loop-i : goal.decreases-loop-i
decreases-loop-i l = l.n - l.i

use Rattle.resolutions.proofs.Copying.{Copying}
use Prim.Native.Nat.{◌-◌}
use Rattle.resolutions.proofs.widen.Given as goal

abbrev pub invariant-loop-i : goal.invariant-loop-i
invariant-loop-i l = Copying l.bytes l.initial.into l.into l.i

use Rattle.resolutions.proofs.Copying.{Gathering}
use lib.ListN.{length}
use Prim.Native.Nat.{◌-◌}
use Rattle.resolutions.proofs.narrow.Given as goal

abbrev pub invariant-loop-i : goal.invariant-loop-i
invariant-loop-i l = Gathering l.roles l.initial.bytes l.bytes l.all l.i

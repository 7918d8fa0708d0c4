use Rattle.preparation.specs.Counting.{CountedTo}
use lib.ListN.{length}
use Prim.Native.Nat.{◌-◌, ◌≤◌}
use Rattle.preparation.proofs.count_from.Given as goal

abbrev pub invariant-loop-i : goal.invariant-loop-i
invariant-loop-i l = (l.i ≤ length l.kinds) × CountedTo l.kinds l.roles l.i l.so_far

use Rattle.preparation.proofs.Counting.{Adding}
use Prim.Native.Nat.{◌-◌, ◌≤◌}
use Rattle.preparation.proofs.count_block.Given as goal

abbrev pub invariant-loop-i : goal.invariant-loop-i
invariant-loop-i l = (l.i ≤ l.to) × Adding l.kinds l.roles l.from l.before l.i l.declarations l.others

use Rattle.preparation.specs.Counting.{CountedTo}
use Rattle.scopes.specs.Entries.{radix}
use lib.ListN.{length}
use Prim.Native.Nat.{◌-◌, ◌≤◌, ◌<◌}
use Rattle.preparation.proofs.count_entries.Given as goal

abbrev pub invariant-loop-i : goal.invariant-loop-i
invariant-loop-i l = (l.i ≤ l.blocks) × (length l.kinds < radix) × CountedTo l.kinds l.roles l.i l.so_far

abbrev pub decreases-loop-i : goal.decreases-loop-i
decreases-loop-i l = l.blocks - l.i

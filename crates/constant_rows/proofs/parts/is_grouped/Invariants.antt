use lib.ListN.{length}
use Prim.Native.Nat.{◌+◌, ◌-◌}
use Rattle.constant_rows.proofs.Grouping.{Grouping}
use Rattle.constant_rows.proofs.parts.is_grouped.Given as goal

abbrev pub invariant-loop-i : goal.invariant-loop-i
invariant-loop-i l = Grouping l.kinds l.order l.i l.lo l.schema

abbrev pub decreases-loop-i : goal.decreases-loop-i
decreases-loop-i l = (length l.order - l.i) + (length l.kinds - l.lo)

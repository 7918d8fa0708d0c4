use lib.ListN.{length}
use Prim.Native.Nat.{◌-◌}
use Rattle.constant_rows.proofs.Numbering.{Numbering}
use Rattle.constant_rows.proofs.number_rows.Given as goal

abbrev pub invariant-loop-n : goal.invariant-loop-n
invariant-loop-n l = Numbering l.kinds l.initial.row_of l.row_of l.n l.rows

abbrev pub decreases-loop-n : goal.decreases-loop-n
decreases-loop-n l = length l.kinds - l.n

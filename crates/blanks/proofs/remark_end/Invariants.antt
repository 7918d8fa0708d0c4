use mathlib.Core.Path.{◌≡◌}
use Prim.Native.Nat.{◌≤◌, ◌-◌, ◌+◌}
use lib.ListN.{length, drop}
use Rattle.express.specs.Tokens.Lexis.{end_of_remark}
use Rattle.blanks.proofs.remark_end.Given as goal

abbrev pub invariant-loop-i : goal.invariant-loop-i
invariant-loop-i l = (l.i ≤ length l.s) × (1 ≤ l.depth) × (l.depth ≤ l.i) × (end_of_remark l.from l.depth l.i (drop l.i l.s) ≡ end_of_remark l.from 1 (l.from + 2) (drop (l.from + 2) l.s))

abbrev pub decreases-loop-i : goal.decreases-loop-i
decreases-loop-i l = length l.s - l.i

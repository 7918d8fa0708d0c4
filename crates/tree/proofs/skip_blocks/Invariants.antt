use lib.Dec.{eqb}
use lib.ListN.{length, get_or}
use Prim.Native.Nat.{◌-◌}
use Rattle.tree.specs.Blocks.{Skips}
use Rattle.tree.proofs.skip_blocks.Given as goal

abbrev pub invariant-loop-at : goal.invariant-loop-at
invariant-loop-at l = Skips (λ m. eqb (get_or l.kinds m 0) l.kind) (length l.kinds) l.from l.at

abbrev pub decreases-loop-at : goal.decreases-loop-at
decreases-loop-at l = l.whole - l.at

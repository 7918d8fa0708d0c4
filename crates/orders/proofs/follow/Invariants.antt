use mathlib.Core.Path.{◌≡◌}
use Prim.Native.Nat.{◌≤◌}
use lib.ListN.{length}
use Rattle.orders.proofs.follow.Given as goal

abbrev pub invariant-loop-taken : goal.invariant-loop-taken
invariant-loop-taken l = (length l.s ≡ length l.initial.s) × (l.taken ≤ l.before) × (l.p ≤ l.end)

abbrev pub decreases-loop-taken : goal.decreases-loop-taken
decreases-loop-taken l = l.p

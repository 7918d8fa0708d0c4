use mathlib.Core.Path.{◌≡◌}
use lib.ListN.{length}
use Rattle.orders.proofs.count.Given as goal

abbrev pub invariant-loop-e : goal.invariant-loop-e
invariant-loop-e l = length l.s ≡ length l.initial.s

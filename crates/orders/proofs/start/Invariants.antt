use mathlib.Core.Path.{◌≡◌}
use lib.ListN.{length}
use Rattle.orders.proofs.start.Given as goal

abbrev pub invariant-loop-v : goal.invariant-loop-v
invariant-loop-v l = length l.s ≡ length l.initial.s

use mathlib.Core.Path.{◌≡◌}
use Prim.Native.Nat.{◌-◌}
use lib.ListN.{length}
use Rattle.listing_io.proofs.Writing.{Writing}
use Rattle.listing_io.proofs.print_rest.Given as goal

abbrev pub invariant-loop-line : goal.invariant-loop-line
invariant-loop-line g l = (length l.out ≡ length l.initial.out) × Writing l.listing (g.W.Write.contents l.initial.output) (g.W.Write.contents l.output) l.from l.from_node l.line l.node

abbrev pub decreases-loop-line : goal.decreases-loop-line
decreases-loop-line g l = l.listing.rows.count - l.line

-- `listing_parts::Listing::part` meets its contract, by the laws of `Going`: each turn writes the next line, or stops before it. Assumes nothing.
use mathlib.Core.Path.{◌≡◌}
use Prim.Native.Nat.{ℕ, ◌≤◌, max}
use Rattle.listing_parts.proofs.Parting.{printed_by, going_fits, going_starts, going_goes_on, going_stops, going_ends}
use native.Mathlib.Omega.{arith}
use Rattle.listing_parts.proofs.Listing.part.Goals as goal

-- a line past the last is the place where the loop began, or the number of lines
last : {from line lines end : ℕ} → end ≡ max from lines → from ≤ line → line ≤ max from lines → lines ≤ line → end ≡ line
last e b a l = omega arith

pub loop-line-init : goal.loop-line-init
loop-line-init c = (going_starts _ _ _ _ _ _ c.requires, omega arith)

pub returns-in_default : goal.returns-in_default
returns-in_default c = going_stops _ _ _ _ c.loop-line.invariant.0
    c.loop-line-test.true (printed_by
    c.loop-line.node c.line_at-written.ensures
    c.next_constant-here.ensures c.in_default.is)

pub overflow_add-at : goal.overflow_add-at
overflow_add-at c = let fits = going_fits _ _ _ _ c.loop-line.invariant.0
    c.loop-line-test.true (printed_by
    c.loop-line.node
    c.line_at-written.ensures
    c.next_constant-here.ensures c.in-Ok.is) in
    record {
      fits = omega (arith, fits, c.well_formed);
    }

pub loop-line-preserved : goal.loop-line-preserved
loop-line-preserved c = (
  going_goes_on _ _ _ _ c.loop-line.invariant.0
      c.loop-line-test.true (printed_by
      c.loop-line.node
      c.line_at-written.ensures
      c.next_constant-here.ensures c.in-Ok.is)
      c.next_constant-here.ensures c.behind-node.ensures,
  omega (arith, c.loop-line-test.true),
)

pub returns : goal.returns
returns c = rw (last c.max.ensures c.loop-line.auto.line c.loop-line.invariant.1 c.loop-line-test.false)
    (going_ends _ _ _ _ c.loop-line.invariant.0 c.loop-line-test.false)

-- `uses::bind_range` meets its contract: each node is stored, skipped or left out. Assumes nothing.
use Rattle.type_names.proofs.Passes.{range_starts, range_ends, range_stores}
use Rattle.uses.proofs.Uses.{range_other, range_use, range_passes, stored_below, range_leaves_out, range_reached}
use mathlib.Core.Path.{refl}
use native.Mathlib.Omega.{arith}
use Prim.Native.Nat.{◌-◌}
use Rattle.uses.proofs.bind_range.Goals as goal

pub found_before-i-requires : goal.found_before-i-requires
found_before-i-requires c = (
  omega (arith, c.min.ensures, c.min-reach.ensures),
  omega (
    arith,
    c.min.ensures,
    c.min-reach.ensures,
  ),
)

pub loop-i-init : goal.loop-i-init
loop-i-init c = let N = c.found_before-i.ensures in
    let r = c.min-reach.ensures in
    let w = c.min.ensures in (
      range_leaves_out (range_starts (omega (arith, r)) (range_reached w r)) c.args.bound.now (λ n l. refl) N,
      omega (arith, w, r, N.low),
      omega (arith, w, r, N.low),
    )

pub found_before-i-requires-in-loop-i : goal.found_before-i-requires-in-loop-i
found_before-i-requires-in-loop-i c = (omega (arith, c.loop-i.invariant.1), omega (arith, c.loop-i.invariant.2))

pub bounds-kinds-n : goal.bounds-kinds-n
bounds-kinds-n c = omega (arith, c.loop-i.invariant.1, c.loop-i-test.true)

pub bounds-roles-n : goal.bounds-roles-n
bounds-roles-n c = omega (
  arith,
  c.loop-i.invariant.2,
  c.loop-i-test.true,
)

pub overflow_cast-roles : goal.overflow_cast-roles
overflow_cast-roles c = omega (arith, c.type_inv.roles (c.loop-i.i - 1))

pub loop-i-smaller-then-has_finding : goal.loop-i-smaller-then-has_finding
loop-i-smaller-then-has_finding c = omega (
  arith,
  c.loop-i-test.true,
  c.found_before-i-in-loop-i.ensures.low,
)

pub loop-i-preserved-then-has_finding : goal.loop-i-preserved-then-has_finding
loop-i-preserved-then-has_finding c = let I = c.loop-i.invariant in
    let N = c.found_before-i-in-loop-i.ensures in (
      range_leaves_out
          (range_stores I.0 c.loop-i-test.true
          (range_use c.loop-i.i c.get_or-code.result refl refl c.has_finding.ensures c.loop-i.bound c.loop-i-test.true I.0.upto
          c.if-has_finding.true c.get_or-code.ensures c.finding_at-found.ensures) c.store-so_far.ensures)
          c.loop-i.bound (stored_below c.store-so_far.ensures) N,
      omega (arith, I.1, N.low),
      omega (arith, I.2, N.low),
    )

pub loop-i-smaller : goal.loop-i-smaller
loop-i-smaller c = omega (
  arith,
  c.loop-i-test.true,
  c.found_before-i-in-loop-i.ensures.low,
)

pub loop-i-preserved : goal.loop-i-preserved
loop-i-preserved c = let I = c.loop-i.invariant in
    let N = c.found_before-i-in-loop-i.ensures in (
      range_leaves_out
          (range_passes I.0 c.loop-i-test.true
          (range_other c.loop-i.i c.get_or-code.result refl refl c.has_finding.ensures c.loop-i.bound c.if-has_finding.false c.get_or-code.ensures))
          c.loop-i.bound (λ n h. refl) N,
      omega (arith, I.1, N.low),
      omega (arith, I.2, N.low),
    )

pub shape_of-bound : goal.shape_of-bound
shape_of-bound c = c.loop-i.invariant.0.bound_long

pub shape_of-to : goal.shape_of-to
shape_of-to c = c.loop-i.invariant.0.to_long

pub returns : goal.returns
returns c = range_ends c.loop-i.invariant.0 c.loop-i-test.false

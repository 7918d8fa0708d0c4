-- `type_names::bind_range` meets its contract: each node is stored or skipped. Assumes nothing.
use Rattle.type_names.proofs.Passes.{range_starts, range_ends, range_skips, range_stores}
use Rattle.type_names.proofs.TypeNames.{range_other, range_name, range_reached}
use mathlib.Core.Path.{refl}
use native.Mathlib.Omega.{arith}
use Prim.Native.Nat.{◌-◌}
use Rattle.type_names.proofs.bind_range.Goals as goal

pub loop-i-init : goal.loop-i-init
loop-i-init c = (
  range_starts (omega (arith, c.min-end.ensures)) (range_reached c.min.ensures c.min-end.ensures),
  omega (
    arith,
    c.min.ensures,
    c.min-end.ensures,
  ),
  omega (arith, c.min.ensures, c.min-end.ensures),
)

pub bounds-kinds-i : goal.bounds-kinds-i
bounds-kinds-i c = omega (arith, c.loop-i.invariant.1, c.loop-i-test.true)

pub bounds-roles-i : goal.bounds-roles-i
bounds-roles-i c = omega (arith, c.loop-i.invariant.2, c.loop-i-test.true)

pub overflow_cast-roles : goal.overflow_cast-roles
overflow_cast-roles c = omega (arith, c.type_inv.roles (c.loop-i.i - 1))

pub loop-i-preserved-then-is_type_name : goal.loop-i-preserved-then-is_type_name
loop-i-preserved-then-is_type_name c = (
  range_stores c.loop-i.invariant.0 c.loop-i-test.true (λ t v R A e. range_name c.loop-i.i refl refl c.is_type_name.ensures c.loop-i-test.true c.loop-i.invariant.0.upto c.if-is_type_name.true c.node_finding-found.ensures t v R A) c.store-so_far.ensures,
  omega (arith, c.loop-i.invariant.1),
  omega (
    arith,
    c.loop-i.invariant.2,
  ),
)

pub loop-i-preserved : goal.loop-i-preserved
loop-i-preserved c = (
  range_skips c.loop-i.invariant.0 c.loop-i-test.true (range_other c.loop-i.i refl refl c.is_type_name.ensures c.if-is_type_name.false),
  omega (
    arith,
    c.loop-i.invariant.1,
  ),
  omega (arith, c.loop-i.invariant.2),
)

pub shape_of-bound : goal.shape_of-bound
shape_of-bound c = c.loop-i.invariant.0.bound_long

pub shape_of-to : goal.shape_of-to
shape_of-to c = c.loop-i.invariant.0.to_long

pub returns : goal.returns
returns c = range_ends c.loop-i.invariant.0 c.loop-i-test.false

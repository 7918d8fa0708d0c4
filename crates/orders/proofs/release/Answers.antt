-- `orders::release` meets its contract. Assumes nothing.
use mathlib.Core.Path.{◌∙◌}
use native.Mathlib.Omega.{arith}
use Rattle.orders.proofs.release.Goals as goal

pub place_free-taken-requires : goal.place_free-taken-requires
place_free-taken-requires c = (
  c.requires.0,
  omega (
    arith,
    c.loop-e.invariant.1,
    c.requires.1,
  ),
)

pub loop-e-preserved : goal.loop-e-preserved
loop-e-preserved c = (
  c.place_free-taken.auto.s ∙ c.put.auto.column ∙ c.loop-e.invariant.0,
  omega (
    arith,
    c.place_free-taken.ensures,
    c.loop-e.invariant.1,
  ),
)

pub shape_of-s : goal.shape_of-s
shape_of-s c = c.loop-e.invariant.0

pub returns : goal.returns
returns c = c.loop-e.invariant.1

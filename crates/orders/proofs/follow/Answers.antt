-- `orders::follow` meets its contract. Assumes nothing.
use mathlib.Core.Path.{refl, ◌∙◌}
use native.Mathlib.Omega.{arith}
use Rattle.orders.proofs.follow.Goals as goal

pub loop-taken-init : goal.loop-taken-init
loop-taken-init c = (refl, omega arith, omega arith)

pub release-taken-requires : goal.release-taken-requires
release-taken-requires c = (
  c.requires.0,
  omega (
    arith,
    c.loop-taken.invariant.1,
    c.requires.2,
  ),
)

pub loop-taken-preserved : goal.loop-taken-preserved
loop-taken-preserved c = (
  c.release-taken.auto.s ∙ c.loop-taken.invariant.0,
  omega
      (arith, c.release-taken.ensures, c.loop-taken.invariant.1),
  omega (
    arith,
    c.loop-taken.invariant.2,
  ),
)

pub shape_of-s : goal.shape_of-s
shape_of-s c = c.loop-taken.invariant.0

pub returns : goal.returns
returns c = c.loop-taken.invariant.1

-- `orders::assign` meets its contract. Assumes nothing.
use mathlib.Core.Path.{◌∙◌}
use native.Mathlib.Omega.{arith}
use Rattle.orders.proofs.assign.Goals as goal

pub place_free-then-requires : goal.place_free-then-requires
place_free-then-requires c = (
  c.requires,
  omega (
    arith,
    c.loop-v.invariant.1,
    c.requires,
  ),
)

pub follow-taken-requires : goal.follow-taken-requires
follow-taken-requires c = (
  c.requires,
  omega (
    arith,
    c.loop-v.invariant.1,
    c.requires,
  ),
  omega (
    arith,
    c.place_free-then.ensures,
    c.loop-v.invariant.1,
    c.requires,
  ),
)

pub loop-v-preserved : goal.loop-v-preserved
loop-v-preserved c = (
  c.follow-taken.auto.s ∙ c.place_free-then.auto.s ∙ c.loop-v.invariant.0,
  omega (
    arith,
    c.follow-taken.ensures,
    c.place_free-then.ensures,
    c.loop-v.invariant.1,
  ),
)

pub shape_of-s : goal.shape_of-s
shape_of-s c = c.loop-v.invariant.0 ∙ c.count.auto.s ∙ c.start.auto.s

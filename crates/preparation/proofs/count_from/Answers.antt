-- `preparation::count_from` meets its contract: the entries before node i are counted, whatever the tokens are. Assumes nothing.
use Rattle.preparation.proofs.Counting.{counting_small, counting_class}
use Rattle.columns.specs.Column.{tabulated}
use Rattle.scopes.specs.Standing.{class_table}
use mathlib.Core.Path.{refl, ◌≡◌}
use lib.ListN.{length}
use native.Mathlib.Omega.{arith}
use Rattle.preparation.proofs.count_from.Goals as goal

pub loop-i-init : goal.loop-i-init
loop-i-init c = (c.requires.0, c.requires.2)

pub class-requires : goal.class-requires
unfolding class_table tabulated
class-requires c = refl

pub more-so_far-requires : goal.more-so_far-requires
more-so_far-requires c = counting_small c.loop-i.invariant.1 (omega (
  arith,
  c.loop-i.invariant.0,
  c.requires.1,
))

pub loop-i-preserved : goal.loop-i-preserved
loop-i-preserved c = (
  omega (arith, c.loop-i-test.true),
  counting_class
      c.loop-i.invariant.1 (rw c.get_or.ensures at c.class.ensures) c.more-so_far.ensures,
)

pub returns : goal.returns
returns c = let e : c.loop-i.i ≡ length c.args.kinds.now = omega (
  arith,
  c.loop-i.invariant.0,
  c.loop-i-test.false,
) in rw e at c.loop-i.invariant.1

-- `cycles::number_groups` meets its contract: by the laws of `Numbering`. Assumes nothing.
use Rattle.cycles.proofs.Scan.{numbering_start, numbering_step}
use native.Mathlib.Omega.{arith}
use Rattle.cycles.proofs.number_groups.Goals as goal

pub loop-v-init : goal.loop-v-init
loop-v-init c = numbering_start c.requires

pub loop-v-preserved : goal.loop-v-preserved
loop-v-preserved c = let q = c.number.ensures (omega (
  arith,
  c.get.ensures,
  c.requires.low _
      c.loop-v-test.true,
  c.requires.small,
)) in numbering_step
    c.loop-v.invariant c.loop-v-test.true (rw q (omega (arith, c.get.ensures)))

pub shape_of-group : goal.shape_of-group
shape_of-group c = c.loop-v.invariant.long

pub returns : goal.returns
returns c = λ v l. c.loop-v.invariant.is v (omega (arith, l, c.loop-v-test.false))

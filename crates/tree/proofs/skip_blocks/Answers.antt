-- `tree::skip_blocks` meets its contract: a block that has none does not change what is first. Assumes nothing.
use Rattle.tree.proofs.Blocks.{skips_none, skips_block}
use native.Mathlib.Omega.{arith}
use Rattle.tree.proofs.skip_blocks.Goals as goal

pub loop-at-init : goal.loop-at-init
loop-at-init c = skips_none _ _ _

pub in_block-requires : goal.in_block-requires
in_block-requires c = omega (arith, c.saturating_sub-whole.ensures, c.loop-at-test.true)

pub returns-then-in_block : goal.returns-then-in_block
returns-then-in_block c = c.loop-at.invariant

pub overflow_add-at : goal.overflow_add-at
overflow_add-at c = omega (
  arith,
  c.saturating_sub-whole.ensures,
  c.loop-at-test.true,
  c.well_formed,
)

pub loop-at-smaller : goal.loop-at-smaller
loop-at-smaller c = omega (arith, c.loop-at-test.true)

pub loop-at-preserved : goal.loop-at-preserved
loop-at-preserved c = skips_block _ _ c.args.block c.loop-at.invariant (omega (
  arith,
  c.saturating_sub-whole.ensures,
  c.loop-at-test.true,
)) c.in_block.ensures c.if-in_block.false

pub returns : goal.returns
returns c = c.loop-at.invariant

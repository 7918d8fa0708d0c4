-- `tree::next_of_kind` meets its contract: what is passed over has none of the kind. Assumes nothing.
use mathlib.Core.Path.{◌∙◌}
use Rattle.tree.proofs.Blocks.{skips_on, skips_near, first_before}
use native.Mathlib.Omega.{arith}
use Rattle.tree.proofs.next_of_kind.Goals as goal

pub returns-then-first-near : goal.returns-then-first-near
returns-then-first-near c = first_before _ _ c.args.from _ c.next_before-first.ensures c.if-first-near.true (omega arith)

pub returns : goal.returns
returns c = c.next_before.ensures ∙ (skips_on _ _ (skips_on _ _ (skips_near _ _ c.args.from _ c.next_before-first.ensures c.if-first-near.false (omega arith)) c.skip_blocks-far.ensures) c.skip_blocks-behind.ensures).is

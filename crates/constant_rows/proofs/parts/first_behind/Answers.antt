-- `constant_rows::parts::first_behind` meets its contract: the first from a place on is the first from the start on. Assumes nothing.
use mathlib.Core.Path.{sym, ◌∙◌, subst}
use Prim.Native.Nat.{ℕ, ◌≤◌, ◌<◌}
use borrow.Author.Tests.{lt-ltb, le-ltb}
use Rattle.relations.proofs.Select.{first_step}
use Rattle.tree.proofs.Next.{first_max}
use Rattle.constant_rows.proofs.parts.first_behind.Goals as goal

pub returns-then-index-node : goal.returns-then-index-node
returns-then-index-node c = sym (first_step _ _ _ c.loop-i-test.true ∙ rw (lt-ltb _ _ (subst (λ (x : ℕ). c.args.node < x) c.index.ensures c.if-index-node.true))) ∙ c.loop-i.invariant

pub loop-i-preserved : goal.loop-i-preserved
loop-i-preserved c = sym (first_step _ _ _ c.loop-i-test.true ∙ rw (le-ltb _ _ (subst (λ (x : ℕ). x ≤ c.args.node) c.index.ensures c.if-index-node.false))) ∙ c.loop-i.invariant

pub returns : goal.returns
returns c = c.max.ensures ∙ first_max _ c.loop-i.auto.i-end c.loop-i-test.false c.loop-i.invariant

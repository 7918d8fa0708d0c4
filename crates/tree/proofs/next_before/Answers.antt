-- `tree::next_before` meets its contract: the first from the node on is the first from the start on. Assumes nothing.
use mathlib.Core.Path.{sym, ◌∙◌}
use borrow.Author.Tests.{eq-eqb, ne_eqb}
use Rattle.relations.proofs.Select.{first_step}
use Rattle.tree.proofs.Next.{first_max}
use Rattle.tree.proofs.next_before.Goals as goal

pub returns-then-kinds-n : goal.returns-then-kinds-n
returns-then-kinds-n c = sym (first_step _ _ _ c.loop-n-test.true ∙ rw (eq-eqb _ _ c.if-kinds-n.true)) ∙ c.loop-n.invariant

pub loop-n-preserved : goal.loop-n-preserved
loop-n-preserved c = sym (first_step _ _ _ c.loop-n-test.true ∙ rw (ne_eqb _ _ c.if-kinds-n.false)) ∙ c.loop-n.invariant

pub returns : goal.returns
returns c = c.max.ensures ∙ first_max _ c.loop-n.auto.n-end c.loop-n-test.false c.loop-n.invariant

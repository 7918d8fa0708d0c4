-- `lines::first_of_kind` meets its contract: the first from the node on is the first from the start on. Assumes nothing.
use mathlib.Core.Path.{refl, sym, ◌∙◌}
use native.Mathlib.Omega.{arith}
use borrow.Author.Tests.{eq-eqb, ne_eqb}
use Prim.Native.Nat.{◌≤◌, ◌<◌}
use mathlib.Core.Path.{◌≡◌}
use mathlib.Core.Logic.{⊎_elim}
use lib.ListN.{length}
use Rattle.relations.proofs.Select.{first_step, first_end, le_or}
use Rattle.lines.proofs.first_of_kind.Goals as goal

pub loop-node-init : goal.loop-node-init
loop-node-init c = refl

pub returns-then-kinds-node : goal.returns-then-kinds-node
returns-then-kinds-node c = sym (first_step _ _ _ c.loop-node-test.true ∙ rw (eq-eqb _ _ c.if-kinds-node.true)) ∙ c.loop-node.invariant

pub loop-node-preserved : goal.loop-node-preserved
loop-node-preserved c = sym (first_step _ _ _ c.loop-node-test.true ∙ rw (ne_eqb _ _ c.if-kinds-node.false)) ∙ c.loop-node.invariant

pub returns : goal.returns
returns c = ⊎_elim
    (λ (h : c.args.from ≤ length c.args.kinds.now). let end : c.max.result ≡ c.loop-node.node = omega arith in end ∙ sym (first_end _ _ _ c.loop-node-test.false) ∙ c.loop-node.invariant)
    (λ (h : length c.args.kinds.now < c.args.from). let end : c.max.result ≡ c.args.from = omega arith in end ∙ sym (first_end _ _ _ (omega arith)))
    (le_or c.args.from (length c.args.kinds.now))

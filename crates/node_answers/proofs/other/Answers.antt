-- `node_answers::other` meets its contract: a constant, or a leaf. Assumes nothing.
use mathlib.Core.Path.{refl}
use Rattle.node_answers.proofs.Literals.{leaf_none}
use Rattle.node_answers.proofs.Assembled.{others_constant, others_leaf}
use Rattle.node_answers.proofs.other.Goals as goal

pub returns-then-kind-eq-CONSTANT : goal.returns-then-kind-eq-CONSTANT
returns-then-kind-eq-CONSTANT c = others_constant c.if-kind-eq-CONSTANT.true c.held_answer.ensures

pub returns-then-kind-gt-OTHER : goal.returns-then-kind-gt-OTHER
returns-then-kind-gt-OTHER c = others_leaf c.if-kind-eq-CONSTANT.false refl refl refl (leaf_none c.if-kind-gt-OTHER.true)

pub returns : goal.returns
returns c = others_leaf c.if-kind-eq-CONSTANT.false c.get_or.ensures c.index_at.ensures c.index_at-2.ensures c.leaf.ensures

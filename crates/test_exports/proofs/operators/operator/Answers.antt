use mathlib.Core.Path.{◌∙◌, sym, ap}
use Rattle.express.specs.Semantics.Shape.{arithmetic, relation}
use Rattle.test_exports.specs.Operands.{operator_at}
use Rattle.test_exports.proofs.operators.operator.Goals as goal

pub returns-in-0 : goal.returns-in-0
returns-in-0 c = rw c.in-0.is

pub returns-in-1 : goal.returns-in-1
returns-in-1 c = ap arithmetic c.arithmetic.ensures ∙ sym (ap (λ k. operator_at k c.args.n) c.in-1.is)

pub returns-in-2 : goal.returns-in-2
returns-in-2 c = ap relation c.relation.ensures ∙ sym (ap (λ k. operator_at k c.args.n) c.in-2.is)

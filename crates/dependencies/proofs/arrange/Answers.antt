-- `dependencies::arrange` meets its contract: one arm for each answer of `orders::order`. Assumes nothing.
use Rattle.dependencies.proofs.Arranging.{arranges_acyclic, arranges_cyclic, arranges_refused}
use mathlib.Core.Path.{refl, ◌∙◌}
use Rattle.dependencies.proofs.arrange.Goals as goal

pub returns-in-Ok-None : goal.returns-in-Ok-None
returns-in-Ok-None c = let a = rw c.in-Ok-None.field-0-is at c.in-Ok-None.ensures in
    arranges_acyclic a c.saturating_sub.ensures c.name_nodes.ensures refl c.order.auto.column c.order.auto.scratch

pub returns-in-Ok-Some : goal.returns-in-Ok-Some
returns-in-Ok-Some c = let a = rw c.in-Ok-Some.field-0-is at c.in-Ok-Some.ensures in
    arranges_cyclic a (c.index-node.ensures ∙ c.get_or.ensures)
    (c.index-token.ensures ∙ c.get_or-in-Ok-Some.ensures) c.get_or-in-Ok-Some-2.ensures c.fault_at.ensures c.order.auto.column c.order.auto.scratch

pub returns-in-Err : goal.returns-in-Err
returns-in-Err c = arranges_refused c.in-Err.field-0 c.order.auto.column c.order.auto.scratch c.in-Err.ensures

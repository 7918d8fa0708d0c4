-- `typing::found_at` meets its contract: a name, a constant, or else an operation. Assumes nothing.
use Rattle.typing.proofs.Assembled.{finds_name, finds_item, finds_constant, finds_operation}
use Rattle.typing.proofs.found_at.Goals as goal

pub returns-then-kind-eq-NAME : goal.returns-then-kind-eq-NAME
returns-then-kind-eq-NAME c = finds_name c.get_or-kind.ensures c.index_at.ensures c.named.ensures c.if-kind-eq-NAME.true

pub returns-then-kind-eq-QUALIFIED_ITEM : goal.returns-then-kind-eq-QUALIFIED_ITEM
returns-then-kind-eq-QUALIFIED_ITEM c = finds_item c.get_or-kind.ensures c.index_at-then-kind-eq-QUALIFIED_ITEM.ensures c.named-then-kind-eq-QUALIFIED_ITEM.ensures c.if-kind-eq-QUALIFIED_ITEM.true

pub returns-then-kind-eq-CONSTANT : goal.returns-then-kind-eq-CONSTANT
returns-then-kind-eq-CONSTANT c = finds_constant c.get_or-kind.ensures c.if-kind-eq-CONSTANT.true
    c.get_or.ensures c.last.ensures c.get_or-then-kind-eq-CONSTANT.ensures c.constant.ensures

pub returns : goal.returns
returns c = finds_operation c.get_or-kind.ensures c.if-kind-eq-NAME.false
    c.if-kind-eq-QUALIFIED_ITEM.false c.if-kind-eq-CONSTANT.false c.index_at-2.ensures
    c.get_or-2.ensures c.operation.ensures

-- `typing::named` meets its contract: the tests are those of the definition, in its order. Assumes nothing.
use Rattle.typing.proofs.Assembled.{named_unbound, named_item, named_constant, named_type, named_other}
use Rattle.typing.proofs.named.Goals as goal

pub returns-then-binding-eq0 : goal.returns-then-binding-eq0
returns-then-binding-eq0 c = named_unbound c.if-binding-eq0.true

pub returns-then-kind-eq-ITEM : goal.returns-then-kind-eq-ITEM
returns-then-kind-eq-ITEM c = named_item c.if-binding-eq0.false c.get_or-number.ensures c.get_or-kind.ensures c.if-kind-eq-ITEM.true

pub returns-then-kind-eq-CONSTANT : goal.returns-then-kind-eq-CONSTANT
returns-then-kind-eq-CONSTANT c = named_constant c.if-binding-eq0.false c.get_or-number.ensures
    c.get_or-kind.ensures c.if-kind-eq-CONSTANT.true c.kind_of_type.ensures c.evaluated.ensures

pub returns-then-get_or-eq-TYPE : goal.returns-then-get_or-eq-TYPE
returns-then-get_or-eq-TYPE c = named_type c.if-binding-eq0.false
    c.get_or-number.ensures c.get_or-kind.ensures
    c.if-kind-eq-ITEM.false c.if-kind-eq-CONSTANT.false c.get_or.ensures c.if-get_or-eq-TYPE.true
    c.evaluated-then-get_or-eq-TYPE.ensures

pub returns : goal.returns
returns c = named_other c.if-binding-eq0.false c.get_or-number.ensures
    c.get_or-kind.ensures c.if-kind-eq-ITEM.false c.if-kind-eq-CONSTANT.false c.get_or.ensures
    c.if-get_or-eq-TYPE.false

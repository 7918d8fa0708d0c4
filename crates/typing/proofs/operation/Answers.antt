-- `typing::operation` meets its contract: each test is the shape of a node. Assumes nothing.
use Rattle.typing.proofs.Assembled.{operates_sign, operates_operator, operates_interval, operates_type, operates_leaf}
use Rattle.typing.proofs.operation.Goals as goal

pub returns-then-kind-eq-UNARY : goal.returns-then-kind-eq-UNARY
returns-then-kind-eq-UNARY c = operates_sign c.last.ensures c.get_or-value.ensures c.if-kind-eq-UNARY.true
    c.sign_class.ensures c.apply.ensures

pub returns-then-kind-eq-TWO_OPERAND : goal.returns-then-kind-eq-TWO_OPERAND
returns-then-kind-eq-TWO_OPERAND c = operates_operator c.last.ensures
    c.get_or-value.ensures c.if-kind-eq-TWO_OPERAND.true
    c.operator_class.ensures c.left.ensures c.get_or.ensures
    c.common.ensures c.apply-then-kind-eq-TWO_OPERAND.ensures

pub returns-then-kind-eq-INTERVAL : goal.returns-then-kind-eq-INTERVAL
returns-then-kind-eq-INTERVAL c = operates_interval c.last.ensures
    c.get_or-value.ensures c.if-kind-eq-INTERVAL.true
    c.low.ensures c.get_or-then-kind-eq-INTERVAL.ensures c.middle.ensures
    c.get_or-then-kind-eq-INTERVAL-2.ensures c.interval.ensures

pub returns-then-kind-eq-SIMPLE_TYPE : goal.returns-then-kind-eq-SIMPLE_TYPE
returns-then-kind-eq-SIMPLE_TYPE c = operates_type c.if-kind-eq-SIMPLE_TYPE.true c.simple.ensures c.evaluated.ensures

pub returns : goal.returns
returns c = operates_leaf c.if-kind-eq-UNARY.false c.if-kind-eq-TWO_OPERAND.false c.if-kind-eq-INTERVAL.false
    c.if-kind-eq-SIMPLE_TYPE.false c.leaf.ensures

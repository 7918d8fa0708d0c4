-- `node_answers::operation` meets its contract: each test is the shape of a node. Assumes nothing.
use Rattle.node_answers.proofs.Assembled.{operates_interval, operates_sign, operates_two, operates_none}
use Rattle.node_answers.proofs.operation.Goals as goal

pub returns-then-kind-eq-INTERVAL : goal.returns-then-kind-eq-INTERVAL
returns-then-kind-eq-INTERVAL c = operates_interval c.if-kind-eq-INTERVAL.true c.interval.ensures

pub returns-then-kind-eq-UNARY : goal.returns-then-kind-eq-UNARY
returns-then-kind-eq-UNARY c = operates_sign c.last.ensures c.answer_at-value.ensures c.terminal_at-terminal.ensures c.if-kind-eq-UNARY.true c.sign.ensures c.applied.ensures

pub returns-then-kind-eq-TWO_OPERAND : goal.returns-then-kind-eq-TWO_OPERAND
returns-then-kind-eq-TWO_OPERAND c = operates_two c.last.ensures c.answer_at-value.ensures c.terminal_at-terminal.ensures c.if-kind-eq-TWO_OPERAND.true c.left.ensures c.answer_at-first.ensures c.two_operands.ensures

pub returns : goal.returns
returns c = operates_none c.if-kind-eq-INTERVAL.false c.if-kind-eq-UNARY.false c.if-kind-eq-TWO_OPERAND.false

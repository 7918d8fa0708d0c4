-- `node_answers::answered` meets its contract: by the kind of the node. Assumes nothing.
use Rattle.node_answers.proofs.Assembled.{answered_operation, answered_other}
use Rattle.node_answers.proofs.answered.Goals as goal

pub returns-then-is_operation : goal.returns-then-is_operation
returns-then-is_operation c = answered_operation c.is_operation.ensures c.if-is_operation.true c.operation.ensures

pub returns : goal.returns
returns c = answered_other c.is_operation.ensures c.if-is_operation.false c.index_at.ensures c.get_or.ensures c.other.ensures

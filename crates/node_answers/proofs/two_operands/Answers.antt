-- `node_answers::two_operands` meets its contract: an operator, or none. Assumes nothing.
use Rattle.node_answers.proofs.Assembled.{combines, combines_none}
use Rattle.node_answers.proofs.two_operands.Goals as goal

pub returns-in-Some : goal.returns-in-Some
returns-in-Some c = combines c.operator.ensures c.in-Some.is c.combined.ensures

pub returns-in-None : goal.returns-in-None
returns-in-None c = combines_none c.operator.ensures c.in-None.is

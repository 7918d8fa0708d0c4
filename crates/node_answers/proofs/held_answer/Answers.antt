-- `node_answers::held_answer` meets its contract: the answer of the expression, as a constant holds it. Assumes nothing.
use Rattle.node_answers.proofs.Assembled.{held_in}
use Rattle.node_answers.proofs.held_answer.Goals as goal

pub returns : goal.returns
returns c = held_in c.last.ensures c.answer_at.ensures c.held.ensures

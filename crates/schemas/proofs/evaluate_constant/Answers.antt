-- `schemas::evaluate_constant` meets its contract: what is held of its expression's answer is stored in its row. Assumes nothing.
use Rattle.schemas.proofs.OneConstant.{one_constant}
use Rattle.schemas.proofs.evaluate_constant.Goals as goal

pub returns : goal.returns
returns c = one_constant c.index_at.ensures c.saturating_sub-nodes.ensures c.saturating_sub-first.ensures c.evaluate_expression.ensures
    c.index_at-2.ensures
    c.saturating_sub-row.ensures
    c.get_or.ensures
    c.held_answer-answer.ensures c.put_answer.ensures

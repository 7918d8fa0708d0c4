-- `node_answers::interval` meets its contract: the answers of its children. Assumes nothing.
use Rattle.node_answers.proofs.Assembled.{intervals}
use Rattle.node_answers.proofs.interval.Goals as goal

pub returns : goal.returns
returns c = intervals c.lower.ensures c.terminal_at.ensures c.bound-lower_relation.ensures c.left.ensures c.terminal_at-2.ensures
    c.bound-upper_relation.ensures c.low.ensures c.answer_at-first.ensures c.middle.ensures c.answer_at-item.ensures c.last.ensures
    c.answer_at-second.ensures c.between.ensures

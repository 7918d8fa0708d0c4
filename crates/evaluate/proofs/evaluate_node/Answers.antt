-- `evaluate::evaluate_node` meets its contract: a name by what it is bound to, strings by their bytes, else by its operands. Assumes nothing.
use Rattle.evaluate.proofs.Assembled.{node_named, node_compared, node_answered}
use Rattle.evaluate.proofs.evaluate_node.Goals as goal
use Rattle.evaluate.proofs.evaluate_node.Goals.{then-compares, else-compares}

pub returns-then-is_name : goal.returns-then-is_name
returns-then-is_name c = node_named c.get_or-kind.ensures c.is_name.ensures c.if-is_name.true c.get_or.ensures c.store_named.ensures

pub returns : goal.returns
returns c =
    elim c.if-compares.branch [
      | then-compares w ↦
          node_compared c.get_or-kind.ensures c.is_name.ensures c.if-is_name.false c.compares.ensures w.if-compares.true w.compared-answer.ensures
          (rw w.answer-is at c.put_answer.ensures)
      | else-compares w ↦
          node_answered c.get_or-kind.ensures c.is_name.ensures c.if-is_name.false c.compares.ensures w.if-compares.false w.answered-answer.ensures
          (rw w.answer-is at c.put_answer.ensures)
    ]

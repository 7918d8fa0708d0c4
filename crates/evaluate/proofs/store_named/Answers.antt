-- `evaluate::store_named` meets its contract: the tests are those of the definition. Assumes nothing.
use Rattle.evaluate.proofs.Assembled.{named_unbound, named_constant, named_other}
use Rattle.evaluate.proofs.store_named.Goals as goal

pub returns-then-binding-eq0 : goal.returns-then-binding-eq0
returns-then-binding-eq0 c = named_unbound c.if-binding-eq0.true c.put_answer.ensures

pub returns-then-kind-eq-CONSTANT : goal.returns-then-kind-eq-CONSTANT
returns-then-kind-eq-CONSTANT c = named_constant c.if-binding-eq0.false c.index.ensures c.get_or-kind.ensures c.if-kind-eq-CONSTANT.true c.index-then-kind-eq-CONSTANT.ensures c.index_at.ensures c.saturating_sub-row.ensures
    c.copy_row.ensures

pub returns : goal.returns
returns c = named_other c.if-binding-eq0.false c.index.ensures c.get_or-kind.ensures c.if-kind-eq-CONSTANT.false c.item.ensures c.put_answer-2.ensures

use Rattle.test_exports.proofs.Rows.{own_row, row_between}
use Rattle.test_exports.proofs.operators.woffulent_between.Goals as goal

pub returns : goal.returns
returns c = let a = c.args in
    row_between c.store.ensures c.between-answer.ensures c.relation.ensures c.relation-2.ensures
    (own_row a.kind_a a.length_a c.ranges.number_a c.answer_of_row-low.ensures)
    (own_row a.kind_b a.length_b c.ranges.number_b c.answer_of_row-item.ensures)
    (own_row a.kind_c a.length_c c.ranges.number_c c.answer_of_row-high.ensures)

use Rattle.test_exports.proofs.Rows.{own_row, row_combined}
use Rattle.test_exports.proofs.operators.woffulent_combined.Goals as goal

pub returns : goal.returns
returns c = let a = c.args in
    row_combined c.store.ensures c.combined.ensures c.operator.ensures
    (own_row a.kind_a a.length_a c.ranges.number_a c.answer_of_row-a.ensures)
    (own_row a.kind_b a.length_b c.ranges.number_b c.answer_of_row-b.ensures)

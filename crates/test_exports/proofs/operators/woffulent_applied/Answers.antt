use Rattle.test_exports.proofs.Rows.{own_row, row_applied}
use Rattle.test_exports.proofs.operators.woffulent_applied.Goals as goal

pub returns : goal.returns
returns c = let a = c.args in
    row_applied c.store.ensures c.applied.ensures c.sign.ensures
    (own_row a.kind_a a.length_a c.ranges.number_a c.answer_of_row.ensures)

use Rattle.test_exports.proofs.Rows.{own_row, row_held}
use Rattle.test_exports.proofs.operators.woffulent_held.Goals as goal

pub returns : goal.returns
returns c = let a = c.args in
    row_held c.store.ensures c.held.ensures.is
    (own_row a.kind_a a.length_a c.ranges.number_a c.answer_of_row.ensures)

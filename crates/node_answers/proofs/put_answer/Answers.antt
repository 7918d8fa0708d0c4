-- `node_answers::put_answer` meets its contract: a store in each column. Assumes nothing.
use Rattle.node_answers.proofs.Rows.{stores}
use mir.Syntax.{w64}
use mir.ValLaws.{to_z-of_z}
use Rattle.node_answers.proofs.put_answer.Goals as goal

pub returns : goal.returns
returns c = stores c.row_of-row.ensures c.put.ensures (to_z-of_z w64 _ (record {
  sfits = c.struct_told-1.given.1.0.1;
})) c.put-2.ensures c.put-3.ensures

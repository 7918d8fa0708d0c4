-- `node_answers::answer_at` meets its contract: a row of all three columns, or none. Assumes nothing.
use Rattle.node_answers.proofs.Rows.{no_kind, no_number, no_length, read_row}
use mir.Syntax.{w64}
use mir.ValLaws.{to_z-of_z}
use Rattle.node_answers.proofs.answer_at.Goals as goal
use Rattle.node_answers.proofs.answer_at.Goals.{else-i-kinds-via-then-i-kinds+then-i-numbers+else-i-lengths, else-i-kinds-via-then-i-kinds+else-i-numbers, else-i-kinds-via-else-i-kinds}

pub returns-then-i-lengths : goal.returns-then-i-lengths
returns-then-i-lengths c = read_row c.args.kinds.now c.args.numbers.now c.args.lengths.now c.args.i c.if-i-kinds.true c.if-i-numbers.true c.if-i-lengths.true (to_z-of_z w64 _ (record {
  sfits = c.answer_of_row-arg-1.given;
})) c.answer_of_row.ensures

pub returns : goal.returns
returns c =
    let k = c.args.kinds.now in let n = c.args.numbers.now in let l = c.args.lengths.now in
    elim c.else-i-kinds.branch [
      | else-i-kinds-via-then-i-kinds+then-i-numbers+else-i-lengths w ↦ no_length k n l c.args.i w.if-i-lengths.false
      | else-i-kinds-via-then-i-kinds+else-i-numbers w ↦ no_number k n l c.args.i w.if-i-numbers.false
      | else-i-kinds-via-else-i-kinds w ↦ no_kind k n l c.args.i w.if-i-kinds.false
    ]

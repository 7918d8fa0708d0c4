-- `evaluate::copy_row` meets its contract: the same row stands for the same answer. Assumes nothing.
use native.Mathlib.Omega.{arith}
use mir.Syntax.{w64}
use mir.ValLaws.{to_z-of_z}
use Prim.Native.Nat.{min}
use mathlib.Core.Path.{ap, ◌∙◌}
use lib.ListN.{length, get_or}
use lib.IntN.{pos}
use borrow.Author.Rules.{rules}
use Rattle.node_answers.proofs.Rows.{copies, copies_none}
use Rattle.evaluate.proofs.copy_row.Goals as goal

pub returns-then-i-rows : goal.returns-then-i-rows
returns-then-i-rows c = copies_none c.args.kinds.now c.args.numbers.now c.args.lengths.now c.args.i
    (c.min-rows.ensures ∙ ap (min (length c.args.kinds.now)) c.min.ensures) c.if-i-rows.true c.put_answer.ensures

pub returns : goal.returns
returns c = copies c.args.kinds.now c.args.numbers.now c.args.lengths.now c.args.i
    (omega (arith, c.if-i-rows.false, c.min-rows.ensures))
    (omega (arith, c.if-i-rows.false, c.min-rows.ensures, c.min.ensures))
    (omega (arith, c.if-i-rows.false, c.min-rows.ensures, c.min.ensures))
    (to_z-of_z w64 (get_or c.args.numbers.now c.args.i (pos 0)) (search rules))
    c.put.ensures c.put-2.ensures c.put-3.ensures

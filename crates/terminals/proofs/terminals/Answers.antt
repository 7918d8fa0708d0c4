-- The terminals from here on, over the column as it is, give what all of them give (`Columns`).
use Rattle.terminals.proofs.Columns.{progress_first, no_more, one_more}
use native.Mathlib.Omega.{arith}
use Rattle.terminals.proofs.terminals.Goals as goal

pub loop-i-init : goal.loop-i-init
loop-i-init c = progress_first _ _ _ _ _

pub loop-i-preserved : goal.loop-i-preserved
loop-i-preserved c = one_more c.loop-i.invariant (omega arith) (omega arith) (omega arith) c.index-start.ensures c.index-size.ensures
    c.terminal.ensures c.put.ensures

pub shape_of-out : goal.shape_of-out
shape_of-out c = c.loop-i.invariant.kept

pub returns : goal.returns
returns c = no_more c.loop-i.invariant (omega arith)

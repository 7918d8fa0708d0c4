-- `ancestors::contains` meets its contract. Assumes nothing.
use Rattle.ancestors.proofs.Steps.{containing_start, containing_no, containing_step, containing_end}
use native.Mathlib.Omega.{arith}
use Rattle.ancestors.proofs.contains.Goals as goal

pub loop-k-init : goal.loop-k-init
loop-k-init c = containing_start

pub returns-then-word-get_or : goal.returns-then-word-get_or
returns-then-word-get_or c = containing_no c.loop-k.invariant (omega arith) c.get_or-word.ensures c.get_or.ensures c.if-word-get_or.true

pub loop-k-preserved : goal.loop-k-preserved
loop-k-preserved c = containing_step c.loop-k.invariant (omega arith) c.get_or-word.ensures c.get_or.ensures c.if-word-get_or.false

pub returns : goal.returns
returns c = containing_end c.loop-k.invariant (omega arith)

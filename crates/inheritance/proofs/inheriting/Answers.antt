-- `inheritance::inheriting` meets its contract. Assumes nothing.
use native.Mathlib.Omega.{arith}
use Rattle.inheritance.proofs.Doing.{inheriting_starts, inheriting_goes, inheriting_ends}
use Rattle.inheritance.proofs.inheriting.Goals as goal

pub loop-v-init : goal.loop-v-init
loop-v-init c = inheriting_starts c.saturating_sub-v.ensures

pub returns-then-inherits : goal.returns-then-inherits
returns-then-inherits c = inheriting_ends c.loop-v.invariant (omega arith)

pub loop-v-preserved : goal.loop-v-preserved
loop-v-preserved c = inheriting_goes c.loop-v.invariant c.loop-v-test.true c.index.ensures c.get_or.ensures c.inherits.ensures c.if-inherits.false

pub returns : goal.returns
returns c = inheriting_ends c.loop-v.invariant (omega arith)

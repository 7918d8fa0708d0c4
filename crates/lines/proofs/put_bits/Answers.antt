-- `lines::put_bits` meets its contract: what is to come at each turn is `Remaining`. Assumes nothing.
use native.Mathlib.Omega.{arith}
use Rattle.lines.proofs.Numbers.{remaining_starts, remaining_step, remaining_ends}
use Rattle.lines.proofs.put_bits.Goals as goal

pub loop-i-init : goal.loop-i-init
loop-i-init c = remaining_starts

pub loop-i-preserved : goal.loop-i-preserved
loop-i-preserved c = remaining_step c.loop-i-test.true c.loop-i.invariant c.put.ensures c.bit.ensures

pub shape_of-out : goal.shape_of-out
shape_of-out c = c.loop-i.invariant.long

pub returns : goal.returns
returns c = record { put = remaining_ends c.loop-i-test.false c.loop-i.invariant; near = omega arith }

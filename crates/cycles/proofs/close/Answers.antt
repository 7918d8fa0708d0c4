-- `cycles::close` meets its contract: by the laws of `Closes`. Assumes nothing.
use Rattle.cycles.proofs.ClosingLoop.{closes_start, closes_room, closes_step, closes_end}
use native.Mathlib.Omega.{arith}
use Rattle.cycles.proofs.close.Goals as goal

pub loop-i-init : goal.loop-i-init
loop-i-init c = closes_start c.requires

pub put-requires : goal.put-requires
put-requires c = (
  omega (arith, closes_room c.loop-i.invariant c.loop-i-test.true c.get-v.ensures),
  omega
      (arith, c.loop-i.invariant.closable.small),
)

pub put-requires-in-loop-i : goal.put-requires-in-loop-i
put-requires-in-loop-i c = (
  omega (
    arith,
    closes_room c.loop-i.invariant
        c.loop-i-test.true c.get-v.ensures,
    c.put.auto.s,
  ),
  omega (
    arith,
    c.loop-i-test.true,
    c.loop-i.invariant.closable.small,
  ),
)

pub loop-i-preserved : goal.loop-i-preserved
loop-i-preserved c = closes_step c.loop-i.invariant
    c.loop-i-test.true
    c.get-v.ensures c.put.ensures
    c.put-in-loop-i.ensures

pub shape_of-s : goal.shape_of-s
shape_of-s c = c.loop-i.invariant.closed.long

pub returns : goal.returns
returns c = closes_end c.loop-i.invariant c.loop-i-test.false

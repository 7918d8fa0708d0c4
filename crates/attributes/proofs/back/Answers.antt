-- `attributes::back` meets its contract. Assumes nothing.
use native.Mathlib.Omega.{arith}
use Rattle.attributes.proofs.Offsetting.{backing_starts, backing_ends, backing_stops, backing_goes}
use Rattle.attributes.proofs.back.Goals as goal

pub loop-e-init : goal.loop-e-init
loop-e-init c = backing_starts

pub returns-then-index-from : goal.returns-then-index-from
returns-then-index-from c = backing_stops c.loop-e.invariant c.loop-e-test.true c.index.ensures c.get_or.ensures c.if-index-from.true (omega arith)

pub loop-e-preserved : goal.loop-e-preserved
loop-e-preserved c = backing_goes c.loop-e.invariant c.loop-e-test.true c.index.ensures c.get_or.ensures c.if-index-from.false

pub returns : goal.returns
returns c = backing_ends c.loop-e.invariant c.loop-e-test.false c.min.ensures

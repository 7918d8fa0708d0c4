-- `resolutions::widen` meets its contract, by the laws of `Copying`. Assumes nothing.
use Rattle.resolutions.proofs.Copying.{copying_starts, copying_goes_on, copying_ends}
use native.Mathlib.Omega.{arith}
use Rattle.resolutions.proofs.widen.Goals as goal

pub loop-i-init : goal.loop-i-init
loop-i-init c = copying_starts

pub bounds-bytes-i : goal.bounds-bytes-i
bounds-bytes-i c = omega (arith, c.loop-i-test.true, c.min-end.ensures)

pub overflow_cast-into : goal.overflow_cast-into
overflow_cast-into c = omega (arith, c.type_inv.bytes c.loop-i.i)

pub bounds-into-i : goal.bounds-into-i
bounds-into-i c = omega (arith, c.loop-i-test.true, c.min-end.ensures, c.loop-i.invariant.len)

pub loop-i-preserved : goal.loop-i-preserved
loop-i-preserved c = copying_goes_on c.min-end.ensures c.loop-i-test.true c.loop-i.invariant

pub shape_of-into : goal.shape_of-into
shape_of-into c = c.loop-i.invariant.len

pub returns : goal.returns
returns c = copying_ends c.min-end.ensures c.loop-i-test.false c.loop-i.invariant

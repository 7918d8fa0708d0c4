-- `resolutions::narrow` meets its contract: the roles before i are copied if they are bytes, which their bits tell. Assumes nothing.
use Rattle.resolutions.proofs.Copying.{gathering_starts, gathering_goes_on, gathered, not_narrowed}
use native.Mathlib.Omega.{arith}
use Rattle.resolutions.proofs.narrow.Goals as goal

pub returns-then-bytes-roles : goal.returns-then-bytes-roles
returns-then-bytes-roles c = not_narrowed (λ l _. omega (arith, c.if-bytes-roles.true))

pub loop-i-init : goal.loop-i-init
loop-i-init c = gathering_starts

pub bounds-roles-i : goal.bounds-roles-i
bounds-roles-i c = omega (arith, c.loop-i-test.true)

pub overflow_cast-bytes : goal.overflow_cast-bytes
overflow_cast-bytes c = omega arith

pub bounds-bytes-i : goal.bounds-bytes-i
bounds-bytes-i c = omega (arith, c.loop-i-test.true, c.loop-i.invariant.len, c.if-bytes-roles.false)

pub loop-i-preserved : goal.loop-i-preserved
loop-i-preserved c = gathering_goes_on (omega (arith, c.if-bytes-roles.false)) c.loop-i-test.true c.loop-i.invariant

pub shape_of-bytes : goal.shape_of-bytes
shape_of-bytes c = c.loop-i.invariant.len

pub returns : goal.returns
returns c = gathered (omega (arith, c.if-bytes-roles.false)) c.loop-i-test.false c.loop-i.invariant

-- `typing::type_expression` meets its contract: what is left to type comes to the same at every turn. Assumes nothing.
use native.Mathlib.Omega.{arith}
use Rattle.typing.proofs.Walking.{going_starts, going_on, going_stops, going_ends}
use Rattle.typing.proofs.type_expression.Goals as goal

pub loop-n-init : goal.loop-n-init
loop-n-init c = going_starts

pub shape_of-scratch-in-Err : goal.shape_of-scratch-in-Err
shape_of-scratch-in-Err c = c.loop-n.invariant.kept

pub returns-in-Err : goal.returns-in-Err
returns-in-Err c = going_stops c.loop-n.invariant c.loop-n-test.true
    c.found_at-found.ensures c.in-Err.is c.from.ensures

pub loop-n-preserved : goal.loop-n-preserved
loop-n-preserved c = going_on c.loop-n.invariant
    c.loop-n-test.true
    c.found_at-found.ensures c.in-Ok.is
    c.put.ensures

pub shape_of-scratch : goal.shape_of-scratch
shape_of-scratch c = c.loop-n.invariant.kept

pub returns : goal.returns
returns c = going_ends c.loop-n.invariant c.loop-n-test.false

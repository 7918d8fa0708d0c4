-- `declared_types::store_constants` meets its contract: what is left to store, from entry i of the order on, gives what is wanted. Assumes nothing.
use Rattle.declared_types.specs.Storing.{constants_stored}
use Rattle.declared_types.proofs.Passing.{along_starts, along_read, along_ends}
use native.Mathlib.Omega.{arith}
use Rattle.declared_types.proofs.store_constants.Goals as goal

pub loop-constant-init : goal.loop-constant-init
loop-constant-init c = along_starts _ _ _

pub loop-constant-preserved : goal.loop-constant-preserved
loop-constant-preserved c = along_read _ _ (omega arith) c.loop-constant.invariant c.store_constant.auto.column c.index.ensures c.store_constant.ensures

pub shape_of-column : goal.shape_of-column
shape_of-column c = c.loop-constant.invariant.long

pub returns : goal.returns
unfolding constants_stored
returns c = along_ends _ _ (omega arith) c.loop-constant.invariant

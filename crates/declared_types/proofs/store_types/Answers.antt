-- `declared_types::store_types` meets its contract: what is left to store, from entry i of the order on, gives what is wanted. Assumes nothing.
use Rattle.declared_types.specs.Storing.{types_stored}
use Rattle.declared_types.proofs.Passing.{along_starts, along_goes_on, along_ends}
use native.Mathlib.Omega.{arith}
use Rattle.declared_types.proofs.store_types.Goals as goal

pub loop-node-init : goal.loop-node-init
loop-node-init c = along_starts _ _ _

pub loop-node-preserved : goal.loop-node-preserved
loop-node-preserved c = along_goes_on _ _ (omega arith) c.loop-node.invariant
    c.store_type.auto.column c.store_type.ensures

pub shape_of-column : goal.shape_of-column
shape_of-column c = c.loop-node.invariant.long

pub returns : goal.returns
unfolding types_stored
returns c = along_ends _ _ (omega arith) c.loop-node.invariant

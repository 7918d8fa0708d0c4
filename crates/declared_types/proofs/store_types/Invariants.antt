use Rattle.declared_types.specs.Storing.{table_of, type_stored}
use Rattle.declared_types.proofs.Passing.{Along}
use Rattle.declared_types.proofs.store_types.Given as goal

abbrev pub invariant-loop-node : goal.invariant-loop-node
invariant-loop-node l = Along (type_stored (table_of l.terminals l.kinds l.tokens l.sizes) l.bindings) l.order l.initial.column l.column l.node-index

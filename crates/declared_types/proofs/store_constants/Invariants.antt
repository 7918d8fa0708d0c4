use Rattle.declared_types.specs.Storing.{table_of, constant_stored}
use Rattle.declared_types.proofs.Passing.{Along}
use Rattle.declared_types.proofs.store_constants.Given as goal

abbrev pub invariant-loop-constant : goal.invariant-loop-constant
invariant-loop-constant l = Along (constant_stored (table_of l.terminals l.kinds l.tokens l.sizes) l.bindings) l.order l.initial.column l.column l.constant-index

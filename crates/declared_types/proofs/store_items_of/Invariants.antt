use Rattle.declared_types.proofs.Passing.{Up, item_of}
use Rattle.declared_types.proofs.store_items_of.Given as goal

abbrev pub invariant-loop-i : goal.invariant-loop-i
invariant-loop-i l = Up (item_of l.kinds l.sizes l.d) l.first l.d l.initial.column l.column l.i

use Rattle.row_inheritance.proofs.Chaining.{Chaining}
use Rattle.row_inheritance.proofs.chain_attributes.Given as goal

abbrev pub invariant-loop-v : goal.invariant-loop-v
invariant-loop-v l = Chaining l.entries.kinds.now l.entries.keys.now l.entries.nodes.now l.rows
    l.symbols l.declarations l.initial.table l.initial.pairs l.table l.pairs l.count l.e l.v

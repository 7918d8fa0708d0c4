use Rattle.row_inheritance.proofs.Storing.{Descending}
use Rattle.row_inheritance.proofs.store_declarations.Given as goal

abbrev pub invariant-loop-v : goal.invariant-loop-v
invariant-loop-v l = Descending l.file.entries.kinds.now l.file.tokens.now l.file.roles.now l.file.symbols.now l.file.entries.keys.now
    l.file.entries.nodes.now l.file.first.now l.table l.rows l.pairs l.width l.initial.bound l.bound l.v

use Rattle.inheritance.proofs.Doing.{Doing}
use Rattle.inheritance.proofs.inherit_declarations.Given as goal

abbrev pub invariant-loop-v : goal.invariant-loop-v
invariant-loop-v l = Doing l.file.entries.kinds.now l.file.tokens.now l.file.roles.now l.file.symbols.now
    l.file.entries.keys.now l.file.entries.nodes.now l.file.first.now l.file.to.now l.initial.table l.initial.mark l.initial.queue l.initial.bound l.table l.mark l.queue l.bound l.v

use lib.ListN.{length}
use Rattle.uses.proofs.Uses.{PassingUses}
use Rattle.uses.proofs.bind_uses.Given as goal

abbrev pub invariant-loop-v : goal.invariant-loop-v
invariant-loop-v l = PassingUses l.kinds
    l.tokens l.sizes l.roles l.symbols l.starts l.keys l.nodes l.heads l.next l.initial.bound l.initial.first l.initial.to (length l.initial.items) l.v l.first l.so_far l.bound l.to l.tabled l.items

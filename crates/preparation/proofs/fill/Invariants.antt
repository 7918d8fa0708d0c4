use Rattle.scopes.specs.Standing.{table_of}
use Rattle.preparation.proofs.Filling.{Entering}
use Rattle.preparation.proofs.fill.Given as goal

abbrev pub invariant-loop-i : goal.invariant-loop-i
invariant-loop-i l = Entering (table_of l.kinds l.tokens l.roles l.symbols) l.declarations l.initial.keys
    l.initial.nodes l.keys l.nodes l.here l.i

abbrev pub decreases-loop-i : goal.decreases-loop-i
decreases-loop-i l = l.i

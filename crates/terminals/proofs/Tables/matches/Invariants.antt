use mathlib.Core.Path.{◌≡◌}
use lib.ListN.{take, drop}
use Rattle.terminals.specs.Lookup.{folded}
use Rattle.terminals.proofs.Parts.{rest}
use Rattle.terminals.proofs.Tables.matches.Given as goal

abbrev pub invariant-loop-j : goal.invariant-loop-j
invariant-loop-j l = rest (take l.n (drop l.from l.self.text)) (folded l.fold (take l.n (drop l.start l.s))) l.j ≡ rest (take l.n (drop l.from l.self.text)) (folded l.fold (take l.n (drop l.start l.s))) 0

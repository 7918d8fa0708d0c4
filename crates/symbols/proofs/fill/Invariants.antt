use Rattle.symbols.proofs.Interning.{Filling}
use Rattle.symbols.proofs.fill.Given as goal

abbrev pub invariant-loop-i : goal.invariant-loop-i
invariant-loop-i l = Filling l.bytes l.starts l.lengths l.terminals l.initial.symbols l.initial.heads l.initial.next l.symbols l.heads l.next l.i

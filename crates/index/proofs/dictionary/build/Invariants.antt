use Rattle.index.proofs.Entries.{Building}
use Rattle.index.proofs.dictionary.build.Given as goal

abbrev pub invariant-loop-i : goal.invariant-loop-i
invariant-loop-i l = Building l.keys l.initial.heads l.initial.next l.heads l.next l.i

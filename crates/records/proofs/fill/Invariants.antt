use Rattle.std.proofs.Common.{length}
use Rattle.records.specs.Rows.{filled}
use Rattle.records.proofs.Laws.{Filling}
use Rattle.records.proofs.fill.Given as goal

abbrev pub invariant-loop-i : goal.invariant-loop-i
invariant-loop-i l = Filling (filled l.kinds l.numbers l.lengths l.count (length l.fn.out)) (length l.fn.out) l.i l.out

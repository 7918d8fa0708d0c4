-- `records::fill` meets its contract: a turn adds the table's row at its place, or zeros past the first rows. Assumes nothing.
use Rattle.std.proofs.Common.{length, ◌∙◌, sym, arith}
use Rattle.records.proofs.Laws.{length_filled, filled_at, filling_goes_on}
use Rattle.records.proofs.fill.Goals as goal

pub loop-i-preserved : goal.loop-i-preserved
loop-i-preserved c = let a = c.args in let n = length a.out.now in
    filling_goes_on (length_filled a.kinds.now a.numbers.now a.lengths.now a.count n) c.loop-i.invariant (omega arith) c.at.result
    (c.at.ensures ∙ sym (filled_at a.kinds.now a.numbers.now a.lengths.now a.count n c.loop-i.i (omega arith)))

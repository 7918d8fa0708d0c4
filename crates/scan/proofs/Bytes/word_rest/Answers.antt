-- The run from here on is the run from the start on.
use mathlib.Core.Path.{◌∙◌}
use Rattle.scan.proofs.Words.{word_stops, word_more}
use Rattle.blanks.proofs.Turns.{run_ends}
use Rattle.scan.proofs.Bytes.word_rest.Goals as goal

pub returns-then-word_mark-eq48 : goal.returns-then-word_mark-eq48
returns-then-word_mark-eq48 c = word_stops _ _ _ c.word_mark.ensures c.loop-i-test.true c.if-word_mark-eq48.true ∙ c.loop-i.invariant

pub loop-i-preserved : goal.loop-i-preserved
loop-i-preserved c = word_more _ _ _ c.word_mark.ensures c.loop-i-test.true c.if-word_mark-eq48.false ∙ c.loop-i.invariant

pub returns : goal.returns
returns c = run_ends _ _ _ _ c.loop-i-test.false c.loop-i.auto.i-end c.loop-i.invariant c.max.ensures

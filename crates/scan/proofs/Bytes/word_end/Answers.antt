-- The run from here on is the run from the start on.
use mathlib.Core.Path.{refl, ◌∙◌}
use Rattle.scan.proofs.Words.{word_ends, word_passes}
use native.Mathlib.Omega.{arith}
use Rattle.scan.proofs.Bytes.word_end.Goals as goal

pub loop-i-init : goal.loop-i-init
loop-i-init c = (omega arith, refl)

pub returns-then-n-lt4 : goal.returns-then-n-lt4
returns-then-n-lt4 c = word_ends c.word_bytes-n.ensures c.if-n-lt4.true c.byte_index.ensures.0 ∙ c.loop-i.invariant.1

pub loop-i-preserved : goal.loop-i-preserved
loop-i-preserved c = (omega arith, word_passes c.word_bytes-n.ensures c.if-n-lt4.false ∙ c.loop-i.invariant.1)

pub returns : goal.returns
returns c = c.word_rest.ensures ∙ c.loop-i.invariant.1

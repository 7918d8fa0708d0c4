-- `lines::put_lower` meets its contract, by the laws of `Copying`. Assumes nothing.
use mathlib.Core.Path.{◌∙◌}
use Rattle.lines.proofs.Pieces.{copying_starts, copying_goes_on, lowered, lower_copied, copying_kept}
use Rattle.lines.proofs.put_lower.Goals as goal

pub loop-i-init : goal.loop-i-init
loop-i-init c = copying_starts

pub loop-i-preserved : goal.loop-i-preserved
loop-i-preserved c = copying_goes_on c.loop-i-test.true c.loop-i.invariant c.put.ensures (c.to_ascii_lowercase.ensures.value ∙ lowered _)

pub shape_of-out : goal.shape_of-out
shape_of-out c = copying_kept c.loop-i.invariant

pub returns : goal.returns
returns c = search lower_copied

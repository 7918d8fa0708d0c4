-- `lines::put_text` meets its contract, by the laws of `Copying`. Assumes nothing.
use Rattle.lines.proofs.Pieces.{copying_starts, copying_goes_on, copied, copying_kept}
use Rattle.lines.proofs.put_text.Goals as goal

pub loop-i-init : goal.loop-i-init
loop-i-init c = copying_starts

pub loop-i-preserved : goal.loop-i-preserved
loop-i-preserved c = search copying_goes_on

pub shape_of-out : goal.shape_of-out
shape_of-out c = copying_kept c.loop-i.invariant

pub returns : goal.returns
returns c = search copied

-- `lines::put_quoted` meets its contract, by the laws of `Quoting`. Assumes nothing.
use Rattle.lines.proofs.Strings.{quoting_starts, quoting_goes_on, quoting_ends, quoting_kept}
use Rattle.lines.proofs.put_quoted.Goals as goal

pub loop-byte-init : goal.loop-byte-init
loop-byte-init c = quoting_starts

pub loop-byte-preserved : goal.loop-byte-preserved
loop-byte-preserved c = search quoting_goes_on

pub shape_of-out : goal.shape_of-out
shape_of-out c = quoting_kept c.loop-byte.invariant

pub returns : goal.returns
returns c = search quoting_ends

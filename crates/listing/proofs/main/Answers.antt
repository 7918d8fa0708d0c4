-- `listing::main` is safe and ends: what is read lies in the buffer. Assumes nothing.
use mathlib.Core.Path.{sym}
use lib.Seq.{length-take-le}
use Rattle.listing.proofs.Arrays.{counted}
use Rattle.listing.proofs.main.Goals as goal

pub slice_bounds-read_input-end : goal.slice_bounds-read_input-end
slice_bounds-read_input-end c = counted _

pub slice_bounds-src-end : goal.slice_bounds-src-end
slice_bounds-src-end c = c.in-Ok.ensures

pub slice_bounds-list-end : goal.slice_bounds-list-end
slice_bounds-list-end c = sym (length-take-le _ _ c.in-Ok.ensures)

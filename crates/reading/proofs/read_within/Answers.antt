-- `reading::read_within` meets its contract: its array has a word for each token of such a file. Assumes nothing.
use native.Mathlib.Omega.{arith}
use Rattle.reading.proofs.Framing.{counted, with_words}
use Rattle.reading.proofs.read_within.Goals as goal

pub slice_bounds-read_nodes-end : goal.slice_bounds-read_nodes-end
slice_bounds-read_nodes-end g c = counted _

pub returns : goal.returns
returns g c = with_words _ c.read_nodes.ensures

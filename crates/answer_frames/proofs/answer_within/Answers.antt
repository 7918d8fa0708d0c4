-- `answer_frames::answer_within` meets its contract: its arrays have an entry for each node of such a file. Assumes nothing.
use native.Mathlib.Omega.{arith}
use Rattle.answer_frames.proofs.Framing.{counted, numbers_counted, with_arrays}
use Rattle.answer_frames.proofs.answer_within.Goals as goal

pub slice_bounds-answer_named-end : goal.slice_bounds-answer_named-end
slice_bounds-answer_named-end g c = counted _

pub slice_bounds-answer_named-end-2 : goal.slice_bounds-answer_named-end-2
slice_bounds-answer_named-end-2 g c = counted _

pub slice_bounds-answer_named-end-3 : goal.slice_bounds-answer_named-end-3
slice_bounds-answer_named-end-3 g c = counted _

pub slice_bounds-answer_named-end-4 : goal.slice_bounds-answer_named-end-4
slice_bounds-answer_named-end-4 g c = numbers_counted _

pub slice_bounds-answer_named-end-5 : goal.slice_bounds-answer_named-end-5
slice_bounds-answer_named-end-5 g c = counted _

pub returns : goal.returns
returns g c = with_arrays _ c.requires c.answer_named.ensures

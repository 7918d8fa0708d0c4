-- `name_frames::name_within` meets its contract: its arrays have room for the names of such a file. Assumes nothing.
use native.Mathlib.Omega.{arith}
use Rattle.name_frames.proofs.Framing.{counted, with_arrays}
use Rattle.name_frames.proofs.name_within.Goals as goal

pub slice_bounds-name_file-end : goal.slice_bounds-name_file-end
slice_bounds-name_file-end g c = counted _

pub slice_bounds-name_file-end-2 : goal.slice_bounds-name_file-end-2
slice_bounds-name_file-end-2 g c = counted _

pub slice_bounds-name_file-end-3 : goal.slice_bounds-name_file-end-3
slice_bounds-name_file-end-3 g c = counted _

pub slice_bounds-name_file-end-4 : goal.slice_bounds-name_file-end-4
slice_bounds-name_file-end-4 g c = counted _

pub slice_bounds-name_file-end-5 : goal.slice_bounds-name_file-end-5
slice_bounds-name_file-end-5 g c = counted _

pub slice_bounds-name_file-end-6 : goal.slice_bounds-name_file-end-6
slice_bounds-name_file-end-6 g c = counted _

pub slice_bounds-name_file-end-7 : goal.slice_bounds-name_file-end-7
slice_bounds-name_file-end-7 g c = counted _

pub slice_bounds-name_file-end-8 : goal.slice_bounds-name_file-end-8
slice_bounds-name_file-end-8 g c = counted _

pub slice_bounds-name_file-end-9 : goal.slice_bounds-name_file-end-9
slice_bounds-name_file-end-9 g c = counted _

pub returns : goal.returns
returns g c = with_arrays c.requires c.name_file.ensures

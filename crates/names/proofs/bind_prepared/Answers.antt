-- `names::bind_prepared` meets its contract: the parts lie within their columns, and the stages have room. Assumes nothing.
use Rattle.name_stages.proofs.Staged.{part_long}
use Rattle.names.proofs.Fitting.{prepared_bound}
use native.Mathlib.Omega.{arith}
use Rattle.names.proofs.bind_prepared.Goals as goal

pub slice_bounds-bind_names-end : goal.slice_bounds-bind_names-end
slice_bounds-bind_names-end c = part_long _ _ c.requires.1

pub slice_bounds-bind_names-end-2 : goal.slice_bounds-bind_names-end-2
slice_bounds-bind_names-end-2 c = part_long _ _ c.requires.2

pub slice_bounds-bind_names-end-4 : goal.slice_bounds-bind_names-end-4
slice_bounds-bind_names-end-4 c = part_long _ _ (omega (
  arith,
  c.requires.0.first_room,
))

pub returns : goal.returns
returns c = prepared_bound _ c.requires.0 c.bind_names.ensures

-- `inheritance::inherit_all` meets its contract. Assumes nothing.
use mathlib.Core.Path.{sym}
use native.Mathlib.Omega.{arith}
use lib.Seq.{length-take-le}
use Rattle.inheritance.proofs.Doing.{inherits_in_parts}
use Rattle.inheritance.proofs.inherit_all.Goals as goal

pub slice_bounds-inherit_declarations-end-2 : goal.slice_bounds-inherit_declarations-end-2
slice_bounds-inherit_declarations-end-2 c = sym (length-take-le _ c.args.table.now (omega (
  arith,
  c.min-named.ensures,
  c.saturating_sub.ensures,
  c.min.ensures,
)))

pub slice_bounds-inherit_declarations-end-4 : goal.slice_bounds-inherit_declarations-end-4
slice_bounds-inherit_declarations-end-4 c = sym (length-take-le _ c.args.mark.now (omega (arith, c.min-marks.ensures)))

pub returns : goal.returns
returns c = inherits_in_parts c.min-named.ensures c.saturating_sub.ensures c.min.ensures c.min-marks.ensures c.inherit_declarations.ensures

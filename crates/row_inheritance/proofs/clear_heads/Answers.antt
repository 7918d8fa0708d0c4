-- `row_inheritance::clear_heads` meets its contract. Assumes nothing.
use mathlib.Core.Path.{sym}
use lib.Seq.{length-take-le}
use Rattle.row_inheritance.proofs.Parts.{zeros_in_part}
use Rattle.row_inheritance.proofs.clear_heads.Goals as goal

pub slice_bounds-clear-end-2 : goal.slice_bounds-clear-end-2
slice_bounds-clear-end-2 c = sym (length-take-le _ c.args.table.now c.requires)

pub returns : goal.returns
returns c = zeros_in_part c.args.symbols c.args.table.now c.requires c.clear.ensures

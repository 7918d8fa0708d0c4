-- `row_inheritance::order_declarations` meets its contract. Assumes nothing.
use mathlib.Core.Path.{sym}
use lib.Seq.{length-take-le}
use Rattle.row_inheritance.proofs.order_declarations.Goals as goal

pub slice_bounds-places-end-2 : goal.slice_bounds-places-end-2
slice_bounds-places-end-2 c = sym (length-take-le _ c.args.table.now c.requires)

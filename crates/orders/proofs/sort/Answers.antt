-- `orders::sort` meets its contract. Assumes nothing.
use mathlib.Core.Path.{refl, sym}
use lib.Seq.{length-take-le}
use native.Mathlib.Omega.{arith}
use Rattle.orders.proofs.Sorting.{sorts}
use mathlib.Core.Logic.{inl}
use Rattle.orders.proofs.sort.Goals as goal

pub returns-then-not-valid : goal.returns-then-not-valid
returns-then-not-valid c = (refl, inl refl)

pub returns-then-column-n : goal.returns-then-column-n
returns-then-column-n c = (refl, inl refl)

pub slice_bounds-sort_in-end : goal.slice_bounds-sort_in-end
slice_bounds-sort_in-end c = c.if-column-n.false

pub slice_bounds-sort_in-end-2 : goal.slice_bounds-sort_in-end-2
slice_bounds-sort_in-end-2 c = sym (length-take-le _ c.args.column.now c.if-column-n.false)

pub slice_bounds-sort_in-end-3 : goal.slice_bounds-sort_in-end-3
slice_bounds-sort_in-end-3 c = c.if-scratch-needed.false

pub slice_bounds-sort_in-end-4 : goal.slice_bounds-sort_in-end-4
slice_bounds-sort_in-end-4 c = sym (length-take-le _ c.args.scratch.now c.if-scratch-needed.false)

pub sort_in-requires : goal.sort_in-requires
sort_in-requires c = let g = c.valid.ensures.yes c.if-not-valid.false in omega (
  arith,
  g.small,
  length-take-le _ c.args.column.now c.if-column-n.false,
)

pub returns : goal.returns
returns c = sorts (c.valid.ensures.yes c.if-not-valid.false) c.args.column.now c.args.scratch.now _ _ c.if-column-n.false c.if-scratch-needed.false c.sort_in.auto.order c.sort_in.result c.sort_in.ensures

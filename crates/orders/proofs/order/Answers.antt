-- `orders::order` meets its contract. Assumes nothing.
use Rattle.orders.proofs.Sorting.{sorted, after_sort}
use Rattle.orders.proofs.order.Goals as goal

pub returns-then-sort : goal.returns-then-sort
returns-then-sort c = sorted _ _ c.sort.result c.if-sort.true c.sort.ensures

pub returns : goal.returns
returns c = after_sort c.args.first.now c.args.to.now c.args.column.now c.args.scratch.now _ _ c.topological_order.result c.topological_order.ensures c.sort.result c.if-sort.false c.sort.ensures

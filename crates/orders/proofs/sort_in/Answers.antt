-- `orders::sort_in` meets its contract. Assumes nothing.
use mathlib.Core.Path.{refl}
use Rattle.graph.proofs.Store.{all_zeros}
use Rattle.orders.proofs.Placing.{sorts_in}
use Rattle.orders.proofs.sort_in.Goals.{then-sorted, else-sorted}
use Rattle.orders.proofs.sort_in.Goals as goal

pub returns : goal.returns
returns c = sorts_in _ _ _ _ c.is_order-sorted.result c.is_order-sorted.ensures refl (elim c.if-sorted.branch [
  | then-sorted w ↦ rw (w.if-sorted.true, w.order-is) w.copy.ensures
  | else-sorted w ↦ rw w.if-sorted.false w.order-is
]) (all_zeros c.assign.new.s c.clear.ensures c.assign.auto.s)

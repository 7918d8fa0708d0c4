-- `declared_types::store_items_of` meets its contract: what is left to store, from node i on, gives what is wanted. Assumes nothing.
use Rattle.declared_types.proofs.Passing.{up_starts, up_ends, item_goes_on, items_of_type, items_of_other, items_of_none}
use native.Mathlib.Omega.{arith}
use Rattle.declared_types.proofs.store_items_of.Goals as goal

pub returns-then-get_or-ne-TYPE : goal.returns-then-get_or-ne-TYPE
returns-then-get_or-ne-TYPE c = items_of_other _ _ _ _ c.index-d.ensures c.get_or.ensures c.if-get_or-ne-TYPE.true

pub returns-then-get_or-ne-ITEM : goal.returns-then-get_or-ne-ITEM
returns-then-get_or-ne-ITEM c = items_of_none _ _ _ _ c.index-d.ensures c.get_or.ensures c.if-get_or-ne-TYPE.false c.first_node-first.ensures c.get_or-2.ensures c.if-get_or-ne-ITEM.true

pub loop-i-init : goal.loop-i-init
loop-i-init c = up_starts _ _ _ _

pub loop-i-preserved : goal.loop-i-preserved
loop-i-preserved c = item_goes_on c.args.kinds.now c.args.sizes.now
    c.loop-i-test.true c.loop-i.invariant c.store_item.auto.column c.get_or-in-loop-i.ensures c.store_item.ensures

pub shape_of-column : goal.shape_of-column
shape_of-column c = c.loop-i.invariant.long

pub returns : goal.returns
returns c = items_of_type _ _ _ _ c.index-d.ensures c.get_or.ensures c.if-get_or-ne-TYPE.false c.first_node-first.ensures c.get_or-2.ensures c.if-get_or-ne-ITEM.false (up_ends _ _ _ c.loop-i-test.false c.loop-i.invariant)

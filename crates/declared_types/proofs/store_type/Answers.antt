-- `declared_types::store_type` meets its contract: the stores are the definition's. Assumes nothing.
use Rattle.declared_types.proofs.Passing.{type_of_other, type_after_items}
use Rattle.declared_types.proofs.store_type.Goals as goal

pub returns-then-get_or-ne-TYPE : goal.returns-then-get_or-ne-TYPE
returns-then-get_or-ne-TYPE c = type_of_other _ _ _ _ _ _ c.index.ensures c.get_or.ensures c.if-get_or-ne-TYPE.true

pub returns : goal.returns
returns c = type_after_items _ _ _ _ _ _ c.index.ensures c.get_or.ensures c.if-get_or-ne-TYPE.false c.store_items_of.ensures c.underlying-number.ensures c.index-2.ensures c.put.ensures

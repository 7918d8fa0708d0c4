-- `schema_items::item_at` meets its contract: the symbol of the node is looked up in the table. Assumes nothing.
use Rattle.schema_items.proofs.Tabling.{reads_item}
use Rattle.schema_items.proofs.item_at.Goals as goal

pub returns : goal.returns
returns c = reads_item c.args.tokens.now c.args.symbols.now c.args.table.now c.args.stamp c.args.node c.get_or.ensures c.index.ensures c.get_or-2.ensures c.meaning_of.ensures

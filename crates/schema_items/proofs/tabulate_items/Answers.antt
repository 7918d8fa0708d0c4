-- `schema_items::tabulate_items` meets its contract: the range is that of the nodes below the schema. Assumes nothing.
use Rattle.schema_items.proofs.Tabling.{tabulates}
use Rattle.schema_items.proofs.tabulate_items.Goals as goal

pub returns : goal.returns
returns c = tabulates c.get_or.ensures c.index.ensures c.saturating_sub.ensures c.saturating_sub-from.ensures c.add_range.ensures

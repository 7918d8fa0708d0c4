-- `symbol_tables::add` meets its contract. Assumes nothing.
use Rattle.symbol_tables.proofs.Entries.{stored}
use Rattle.symbol_tables.proofs.add.Goals as goal

pub returns : goal.returns
returns c = stored c.index-s.ensures c.get_or.ensures c.held-code.ensures c.number.ensures
    c.more.ensures c.entry.ensures c.put.ensures

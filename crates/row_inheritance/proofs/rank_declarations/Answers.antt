-- `row_inheritance::rank_declarations` meets its contract. Assumes nothing.
use Rattle.row_inheritance.proofs.Parts.{ranks_in_part}
use Rattle.row_inheritance.proofs.rank_declarations.Goals as goal

pub returns : goal.returns
returns c = ranks_in_part c.args.symbols c.args.declarations c.args.table.now _ c.requires.0 c.requires.1 c.rank_entities.ensures c.rank_entities.auto.ranks

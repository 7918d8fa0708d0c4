-- `meanings::by_node` meets its contract: an entry is given by its node. Assumes nothing.
use Rattle.meanings.proofs.Nearest.{by_one}
use Rattle.meanings.proofs.by_node.Goals as goal

pub returns-in-One : goal.returns-in-One
returns-in-One c = by_one c.in-One.is c.get_or.ensures c.index.ensures

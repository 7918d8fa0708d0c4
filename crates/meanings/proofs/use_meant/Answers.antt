-- `meanings::use_meant` meets its contract: what is own goes before all else. Assumes nothing.
use Rattle.meanings.proofs.Nearest.{meanings}
use Rattle.meanings.proofs.use_meant.Goals as goal

pub returns-in-Nothing : goal.returns-in-Nothing
returns-in-Nothing c = search meanings

pub returns-in-One : goal.returns-in-One
returns-in-One c = search meanings

pub returns-in-Several : goal.returns-in-Several
returns-in-Several c = search meanings

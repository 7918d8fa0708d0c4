-- `meanings::value_meant` meets its contract: a declaration of the schema goes before its items. Assumes nothing.
use Rattle.meanings.proofs.Nearest.{meanings}
use Rattle.meanings.proofs.value_meant.Goals as goal

pub returns-in-Nothing : goal.returns-in-Nothing
returns-in-Nothing c = search meanings

pub returns-in-One : goal.returns-in-One
returns-in-One c = search meanings

pub returns-in-Several : goal.returns-in-Several
returns-in-Several c = search meanings

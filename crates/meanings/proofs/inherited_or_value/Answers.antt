-- `meanings::inherited_or_value` meets its contract: what is inherited goes before what the schema has. Assumes nothing.
use Rattle.meanings.proofs.Nearest.{meanings}
use Rattle.meanings.proofs.inherited_or_value.Goals as goal

pub returns-in-Nothing : goal.returns-in-Nothing
returns-in-Nothing c = search meanings

-- `findings::item_of_type` meets its contract: the fault of the type goes before that of the item. Assumes nothing.
use Rattle.findings.proofs.FoundNames.{names_found}
use Rattle.findings.proofs.item_of_type.Goals as goal

pub returns : goal.returns
returns c = search names_found

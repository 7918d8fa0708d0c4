-- `findings::qualified_finding` meets its contract: the type is looked up in the schema. Assumes nothing.
use Rattle.findings.proofs.FoundNames.{names_found}
use Rattle.findings.proofs.qualified_finding.Goals as goal

pub returns-in-Nothing : goal.returns-in-Nothing
returns-in-Nothing c = search names_found

pub returns-in-One : goal.returns-in-One
returns-in-One c = search names_found

pub returns-in-Several : goal.returns-in-Several
returns-in-Several c = search names_found

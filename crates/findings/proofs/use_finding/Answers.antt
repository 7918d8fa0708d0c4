-- `findings::use_finding` meets its contract: one law for each meaning. Assumes nothing.
use Rattle.findings.proofs.FoundNames.{names_found}
use Rattle.findings.proofs.use_finding.Goals as goal

pub returns-in-Nothing : goal.returns-in-Nothing
returns-in-Nothing c = search names_found

pub returns-in-Several : goal.returns-in-Several
returns-in-Several c = search names_found

pub returns-in-Node : goal.returns-in-Node
returns-in-Node c = search names_found

pub returns-in-Declaration : goal.returns-in-Declaration
returns-in-Declaration c = search names_found

-- `findings::declaration_finding` meets its contract: the number of a constant is its target. Assumes nothing.
use Rattle.findings.proofs.FoundNames.{names_found}
use Rattle.findings.proofs.declaration_finding.Goals as goal

pub returns : goal.returns
returns c = search names_found

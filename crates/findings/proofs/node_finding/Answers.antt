-- `findings::node_finding` meets its contract: a node that is no declaration has no target. Assumes nothing.
use Rattle.findings.proofs.FoundNames.{names_found}
use Rattle.findings.proofs.node_finding.Goals as goal

pub returns : goal.returns
returns c = search names_found

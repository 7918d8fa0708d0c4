-- `uses::finding_at` meets its contract: one code stands for what is inherited, the other for what is meant among the items. Assumes nothing.
use Rattle.uses.proofs.Uses.{finding_found}
use Rattle.uses.proofs.finding_at.Goals as goal

pub returns : goal.returns
returns c = finding_found c.get_or-kind.ensures c.decoded-inherited.ensures c.item_at.ensures
    c.decoded-item.ensures c.node_finding.ensures

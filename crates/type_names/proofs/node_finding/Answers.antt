-- `type_names::node_finding` meets its contract: the columns hold the node's row. Assumes nothing.
use Rattle.type_names.proofs.TypeNames.{type_name_found}
use Rattle.type_names.proofs.node_finding.Goals as goal

pub returns : goal.returns
returns c = type_name_found c.get_or.ensures c.index-token.ensures
    c.get_or-2.ensures c.get_or-3.ensures c.get_or-4.ensures c.type_name.ensures

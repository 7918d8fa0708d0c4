-- `type_names::bound_to` meets its contract: the columns hold the node and its kind. Assumes nothing.
use Rattle.type_names.proofs.TypeNames.{bound_to}
use Rattle.type_names.proofs.bound_to.Goals as goal

pub returns : goal.returns
returns c = bound_to c.get_or.ensures c.index-node.ensures
    c.get_or-2.ensures c.suits.ensures c.wrong_sort-fault.ensures
    c.number-binding.ensures c.number.ensures c.arc_target-target.ensures

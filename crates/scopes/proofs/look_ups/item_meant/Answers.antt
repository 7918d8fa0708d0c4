-- `scopes::look_ups::item_meant` meets its contract: the entries under the key are the items of the type. Assumes nothing.
use Rattle.scopes.proofs.Looking.{item_meant}
use Rattle.scopes.proofs.look_ups.item_meant.Goals as goal

pub returns : goal.returns
returns c = item_meant c.looked_up.ensures

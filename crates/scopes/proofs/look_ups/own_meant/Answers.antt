-- `scopes::look_ups::own_meant` meets its contract: the entries under the key are the own attributes and labels. Assumes nothing.
use Rattle.scopes.proofs.Looking.{own_meant}
use Rattle.scopes.proofs.look_ups.own_meant.Goals as goal

pub returns : goal.returns
returns c = own_meant c.looked_up.ensures

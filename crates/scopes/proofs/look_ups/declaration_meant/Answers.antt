-- `scopes::look_ups::declaration_meant` meets its contract: the entries under the key are the declarations. Assumes nothing.
use Rattle.scopes.proofs.Looking.{declaration_meant}
use Rattle.scopes.proofs.look_ups.declaration_meant.Goals as goal

pub returns : goal.returns
returns c = declaration_meant c.looked_up.ensures

-- `scopes::look_ups::meant` meets its contract: the first entry and the next one tell the meaning. Assumes nothing.
use Rattle.scopes.proofs.Looking.{nothing_meant, one_meant, several_meant}
use Rattle.scopes.proofs.look_ups.meant.Goals as goal

pub returns-in_default : goal.returns-in_default
returns-in_default c = nothing_meant c.find-found.ensures c.in_default.is

pub returns-in_default-more : goal.returns-in_default-more
returns-in_default-more c = one_meant c.find-found.ensures c.in-Some.is c.next_of-more.ensures c.in_default-more.is

pub returns : goal.returns
returns c = several_meant c.find-found.ensures c.in-Some.is c.next_of-more.ensures c.in-Some-more.is

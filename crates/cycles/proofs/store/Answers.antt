-- `cycles::store` meets its contract: by cases of the step. Assumes nothing.
use Rattle.cycles.proofs.Storing.{unwritten}
use Rattle.cycles.proofs.store.Goals as goal

pub enter-requires : goal.enter-requires
enter-requires c = rw c.in-Enter.is at c.requires

pub put-requires : goal.put-requires
put-requires c = rw c.in-Pass.is at c.requires

pub close-requires : goal.close-requires
close-requires c = rw c.in-Close.is at c.requires

pub returns-in-Enter : goal.returns-in-Enter
returns-in-Enter c = rw c.in-Enter.is c.enter.ensures

pub returns-in-Pass : goal.returns-in-Pass
returns-in-Pass c = rw c.in-Pass.is c.put.ensures

pub returns-in-Close : goal.returns-in-Close
returns-in-Close c = rw c.in-Close.is c.close.ensures

pub returns-in-Done : goal.returns-in-Done
returns-in-Done c = unwritten c.args.first.now c.args.s.now c.args.c c.args.step c.in-Done.is

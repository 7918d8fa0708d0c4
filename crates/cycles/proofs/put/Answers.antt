-- `cycles::put` meets its contract: the cast keeps a value that fits. Assumes nothing.
use Rattle.cycles.proofs.put.Goals as goal

pub returns : goal.returns
returns c = rw (c.number.ensures c.requires.1)

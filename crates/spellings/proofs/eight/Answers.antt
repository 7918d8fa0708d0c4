-- `spellings::eight` meets its contract: the two halves are its digits. Assumes nothing.
use Rattle.spellings.proofs.Blocks.{eight_is}
use Rattle.spellings.proofs.eight.Goals as goal

pub returns : goal.returns
returns c = eight_is c.args.s.now c.args.i c.four.ensures c.four-2.ensures

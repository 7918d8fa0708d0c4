-- `spellings::block` meets its contract: the mask takes the low five bits of each byte. Assumes nothing.
use Rattle.spellings.proofs.Spellings.{is_block}
use native.Mathlib.Omega.{arith}
use Rattle.spellings.proofs.block.Goals as goal

pub returns : goal.returns
returns c = is_block c.args.word.now c.args.i (λ j. omega (arith, c.type_inv.word j)) c.four.ensures

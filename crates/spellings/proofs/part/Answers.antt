-- `spellings::part` meets its contract: what a word does not have is 0. Assumes nothing.
use Rattle.spellings.proofs.Spellings.{past_block, rest_block}
use Rattle.spellings.proofs.part.Goals as goal

pub returns-then-word-i : goal.returns-then-word-i
returns-then-word-i c = past_block c.args.word.now c.args.i c.if-word-i.true

pub returns : goal.returns
returns c = rest_block c.args.word.now c.args.i c.short_block.ensures

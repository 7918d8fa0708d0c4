-- `spellings::hash_clipped` meets its contract: the part that is there is the word. Assumes nothing.
use Rattle.spellings.proofs.Spellings.{clipped_hash}
use mathlib.Core.Path.{refl}
use Rattle.spellings.proofs.hash_clipped.Goals as goal

pub returns : goal.returns
returns c = clipped_hash c.args.s.now c.args.at
    c.args.n c.min-from.ensures c.min.ensures refl c.hash.ensures

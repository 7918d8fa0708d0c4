-- `chains::Names::in_bucket` meets its contract: the chain begins at the bucket's head. Assumes nothing.
use Rattle.chains.proofs.Names.in_bucket.Goals as goal

pub along-requires : goal.along-requires
along-requires c = c.requires.0

pub returns : goal.returns
returns c = rw c.index.ensures at c.along.ensures

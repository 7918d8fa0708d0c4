-- `index::mix` meets its contract: it computes the definition. Assumes nothing.
use mathlib.Core.Path.{refl}
use Rattle.index.specs.Bucket.{mixed}
use Rattle.index.proofs.mix.Goals as goal

pub returns : goal.returns
unfolding mixed
returns c = refl

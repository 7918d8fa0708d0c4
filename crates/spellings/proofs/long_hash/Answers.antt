-- `spellings::long_hash` meets its contract: what is left to be stirred in gives the same. Assumes nothing.
use mathlib.Core.Path.{◌∙◌}
use Rattle.spellings.proofs.Spellings.{lower_is, stirring_starts, stirring_goes_on, stirring_ends}
use Rattle.spellings.proofs.long_hash.Goals as goal

pub loop-b-init : goal.loop-b-init
loop-b-init c = stirring_starts

pub loop-b-preserved : goal.loop-b-preserved
loop-b-preserved c = stirring_goes_on c.loop-b.invariant c.loop-b-test.true (c.to_ascii_lowercase.ensures.value ∙ lower_is _)
    c.stir-h.ensures

pub returns : goal.returns
returns c = stirring_ends c.loop-b.invariant c.loop-b-test.false c.stir.ensures c.stir-2.ensures

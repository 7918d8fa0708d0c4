use Rattle.bits.proofs.Strings.{all_low, mask_some, mask_is}
use Rattle.bits.proofs.low.Goals as goal

pub returns-then-k-ge-WORD : goal.returns-then-k-ge-WORD
returns-then-k-ge-WORD c = search all_low

pub nonzero_rem-result : goal.nonzero_rem-result
nonzero_rem-result c = search mask_some

pub returns : goal.returns
returns c = search mask_is

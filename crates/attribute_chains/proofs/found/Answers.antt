-- `attribute_chains::found` meets its contract. Assumes nothing.
use mathlib.Core.Path.{◌∙◌}
use native.Mathlib.Omega.{arith}
use Rattle.attribute_chains.proofs.Finding.{walking_starts, walking_goes, walking_ends, bit_chosen}
use Rattle.attribute_chains.proofs.found.Goals as goal

pub loop-link-init : goal.loop-link-init
loop-link-init c = walking_starts (omega (arith, c.ranges.head)) c.index-link.ensures

pub loop-link-preserved : goal.loop-link-preserved
loop-link-preserved c = walking_goes c.loop-link.invariant c.loop-link-test.true c.min-offset.ensures (c.index-pair.ensures ∙ c.get_or.ensures) (bit_chosen c.loop-link.code c.has.ensures c.get_or-in-loop-link.ensures c.more-counted.ensures c.chosen-code.ensures) c.min-link.ensures

pub returns : goal.returns
returns c = walking_ends c.loop-link.invariant c.loop-link-test.false

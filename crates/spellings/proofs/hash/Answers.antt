-- `spellings::hash` meets its contract: by the laws of `Hashing`. Assumes nothing.
use Rattle.spellings.proofs.Spellings.{hashing_starts, hashing_goes_on, hashing_ends}
use native.Mathlib.Omega.{arith}
use Rattle.spellings.proofs.hash.Goals as goal

pub join-requires : goal.join-requires
join-requires c = (omega arith, c.part.ensures.small)

pub join-h-requires : goal.join-h-requires
join-h-requires c = (c.join.ensures.small, c.part-2.ensures.small)

pub loop-i-init : goal.loop-i-init
loop-i-init c = hashing_starts c.part.ensures c.join.ensures c.part-2.ensures c.join-h.ensures

pub join-h-requires-in-loop-i : goal.join-h-requires-in-loop-i
join-h-requires-in-loop-i c = (c.loop-i.invariant.small, c.part-in-loop-i.ensures.small)

pub loop-i-preserved : goal.loop-i-preserved
loop-i-preserved c = hashing_goes_on c.loop-i.invariant c.loop-i-test.true c.part-in-loop-i.ensures c.join-h-in-loop-i.ensures

pub returns : goal.returns
returns c = hashing_ends c.loop-i.invariant c.loop-i-test.false

-- `chains::Names::later_place` meets its contract: by the laws of `Going`, one step for each round. Assumes nothing.
use Rattle.chains.proofs.Rounds.{going_starts, going_on, going_settles, going_ends}
use Rattle.chains.proofs.Names.later_place.Goals as goal

pub loop-left-init : goal.loop-left-init
loop-left-init c = going_starts _ _ _ c.long_hash-h.ensures

pub later_bucket-b-requires : goal.later_bucket-b-requires
later_bucket-b-requires c = c.requires.1

pub in_bucket-met-requires : goal.in_bucket-met-requires
in_bucket-met-requires c = (c.requires.0, c.later_bucket-b.ensures.small)

pub returns-in_default : goal.returns-in_default
returns-in_default c = let w = c.loop-left.invariant in
    let b = c.later_bucket-b.ensures in
    going_settles _ _ _ w b (record { low = b.small; along = c.in_bucket-met.ensures }) c.loop-left-test.true
    c.in_default.not-Full c.placed.ensures

pub loop-left-preserved : goal.loop-left-preserved
loop-left-preserved c = let w = c.loop-left.invariant in
    let b = c.later_bucket-b.ensures in
    going_on _ _ _ w b (record { low = b.small; along = c.in_bucket-met.ensures }) c.loop-left-test.true
    c.in-Full.is c.stir-h.ensures

pub later_bucket-b-requires-2 : goal.later_bucket-b-requires-2
later_bucket-b-requires-2 c = c.requires.1

pub in_bucket-requires : goal.in_bucket-requires
in_bucket-requires c = (c.requires.0, c.later_bucket-b-2.ensures.small)

pub returns : goal.returns
returns c = let w = c.loop-left.invariant in
    let b = c.later_bucket-b-2.ensures in
    going_ends _ _ _ w b (record { low = b.small; along = c.in_bucket.ensures }) c.loop-left-test.false c.placed-2.ensures

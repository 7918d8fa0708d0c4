-- `chains::Names::place_from` meets its contract: the first round settles it, or is passed. Assumes nothing.
use Rattle.chains.proofs.Rounds.{place_settles, place_goes_on}
use native.Mathlib.Omega.{arith}
use Rattle.chains.proofs.Names.place_from.Goals as goal

pub in_bucket-met-requires : goal.in_bucket-met-requires
in_bucket-met-requires c = (c.requires.0, c.requires.1.small)

pub returns-in_default : goal.returns-in_default
returns-in_default c = let p = c.requires.1 in
    place_settles _ _ _ p (record { low = p.small; along = c.in_bucket-met.ensures })
    c.in_default.not-Full c.placed.ensures

pub later_place-requires : goal.later_place-requires
later_place-requires c = let p = c.requires in
    (p.0, omega (arith, p.1.small))

pub returns : goal.returns
returns c = let p = c.requires.1 in
    place_goes_on _ _ _ p (record { low = p.small; along = c.in_bucket-met.ensures })
    c.in-Full.is c.later_place.ensures

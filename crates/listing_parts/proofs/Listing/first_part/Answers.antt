-- `listing_parts::Listing::first_part` meets its contract: a part stands behind the first line. Assumes nothing.
use Rattle.listing_parts.proofs.Parting.{ended_by, ends_within, first_goes_on, first_stops}
use mathlib.Core.Path.{◌≡◌}
use Prim.Native.Nat.{ℕ}
use Rattle.listing_parts.specs.Parts.{start}
use Rattle.listing_parts.specs.declared.Place.{Place}
use Rattle.listing_parts.proofs.Listing.first_part.Goals as goal

start_is : {a l n : ℕ} → a ≡ 0 → l ≡ 0 → n ≡ 0 → ◌≡◌ {A = Place} (record { at = a; line = l; node = n }) start
start_is e f g = rw (e, f, g)

pub returns-in_default : goal.returns-in_default
returns-in_default c = rw (start_is c.default.ensures.0 c.default.ensures.1.0 c.default.ensures.1.1)
    (first_stops _ _ _ _ _ _ (ended_by c.head-written.ensures c.in_default.is))

pub part-requires : goal.part-requires
part-requires c = ends_within (ended_by c.head-written.ensures c.in-Ok.is)

pub returns : goal.returns
returns c = first_goes_on _ _ _ _ _ _ (ended_by c.head-written.ensures
    c.in-Ok.is) c.part.ensures

use Prim.Native.Nat.{◌≤◌, max}
use Rattle.records.specs.Rows.{answers}
use Rattle.lines.specs.Print.{table}
use Rattle.listing_parts.proofs.Parting.{Going}
use Rattle.listing_parts.proofs.Listing.part.Given as goal

abbrev pub invariant-loop-line : goal.invariant-loop-line
invariant-loop-line l = Going
    (table l.self.columns) l.self.room.now (answers l.self.rows) l.self.rows.count l.initial.out
    l.from l.out (record { at = l.at; line = l.line; node = l.node }) × (l.line ≤ max l.from.line l.self.rows.count)

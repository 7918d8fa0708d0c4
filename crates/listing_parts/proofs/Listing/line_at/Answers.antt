-- `listing_parts::Listing::line_at` meets its contract: the record that is read is the answer at the index. Assumes nothing.
use Rattle.listing_parts.proofs.Parting.{recorded}
use Rattle.listing_parts.proofs.Listing.line_at.Goals as goal

pub returns : goal.returns
returns c = recorded c.at-answer.ensures c.put_line.ensures

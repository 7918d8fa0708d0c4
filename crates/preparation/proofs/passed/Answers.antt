-- `preparation::passed` meets its contract: each field is what the calls give. Assumes nothing.
use Rattle.preparation.proofs.Classes.{passed_by}
use Rattle.preparation.proofs.passed.Goals as goal

pub returns : goal.returns
returns c = passed_by
    c.sort_in-sort.ensures
    c.entries_in.ensures
    c.choose-owner.ensures
    c.choose-schema.ensures
    c.choose.ensures
    c.saturating_sub-vertex.ensures
    c.saturating_sub-other.ensures

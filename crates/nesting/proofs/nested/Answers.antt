use Rattle.parsing.proofs.Limit.{opened_by}
use Rattle.nesting.proofs.nested.Goals as goal

pub returns : goal.returns
returns c = opened_by c.args.depth c.requires.0 c.byte_index.ensures.0
    c.byte_index.ensures.1 c.byte_index-2.ensures.0 c.saturating_sub.ensures

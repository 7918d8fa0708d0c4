-- `schemas::write_string` meets its contract: the bytes of its leaves stand where its row says. Assumes nothing.
use mathlib.Core.Path.{refl}
use Rattle.schemas.proofs.OneConstant.{string_written}
use Rattle.schemas.proofs.write_string.Goals as goal

pub returns-then-get_or-eq-STRING : goal.returns-then-get_or-eq-STRING
returns-then-get_or-eq-STRING c = string_written c.index_at.ensures
    c.saturating_sub-row.ensures
    c.get_or.ensures
    c.if-get_or-eq-STRING.true
    c.index_at-then-get_or-eq-STRING.ensures
    c.saturating_sub-nodes.ensures
    c.saturating_sub-first.ensures c.spell-size.ensures
    refl c.start_at.ensures c.copy_bytes.ensures

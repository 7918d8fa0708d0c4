use mathlib.Core.Path.{refl}
use Rattle.lines.proofs.Pieces.{renamed}
use Rattle.lines.proofs.Columns.put_named.Goals as goal

pub returns : goal.returns
returns c = renamed c.put_name.ensures (rw (c.entry-length.ensures.0, c.entry-start.ensures.0, c.entry-token.ensures.0) refl)

-- `columns::put` meets its contract: where the index is past the end, a store changes nothing. Assumes nothing.
use mathlib.Core.Path.{sym}
use lib.Seq.{set_out}
use Rattle.columns.proofs.put.Goals as goal

pub returns-else-at-column : goal.returns-else-at-column
returns-else-at-column g c = sym (set_out _ _ _ c.if-at-column.false)

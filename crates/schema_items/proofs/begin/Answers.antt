-- `schema_items::begin` meets its contract: a column of zeros has stamp 0 everywhere. Assumes nothing.
use mathlib.Core.Path.{refl}
use Rattle.schema_items.proofs.Tabling.{begins}
use Rattle.schema_items.proofs.begin.Goals as goal

pub returns : goal.returns
returns c = begins c.args.table.now c.clear.ensures refl

-- `columns::clear` meets its contract, by the laws of `Clearing`. Assumes nothing.
use native.Mathlib.Omega.{arith}
use Rattle.columns.proofs.Laws.{clearing_starts, clearing_goes_on, clearing_ends}
use Rattle.columns.proofs.clear.Goals as goal

pub loop-i-init : goal.loop-i-init
loop-i-init g c = clearing_starts

pub loop-i-preserved : goal.loop-i-preserved
loop-i-preserved g c = clearing_goes_on (omega arith) c.loop-i.invariant

pub returns : goal.returns
returns g c = clearing_ends (omega arith) c.loop-i.invariant

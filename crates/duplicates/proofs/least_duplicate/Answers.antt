-- `duplicates::least_duplicate` meets its contract: the least fault of the entries from e on, from the last to the first. Assumes nothing.
use Rattle.duplicates.proofs.Repeats.{least_starts, least_more, least_all}
use mathlib.Core.Path.{◌≡◌, refl}
use native.Mathlib.Omega.{arith}
use Rattle.duplicates.proofs.least_duplicate.Goals as goal

pub loop-e-init : goal.loop-e-init
loop-e-init c = least_starts _ _ _ _ _ refl

pub loop-e-preserved : goal.loop-e-preserved
loop-e-preserved c = least_more _ _ _ _ _ (omega (arith, c.loop-e-test.true)) c.loop-e.invariant c.repetition.ensures c.sooner-least.ensures

pub returns : goal.returns
returns c = let z : c.loop-e.e ≡ 0 = omega (arith, c.loop-e-test.false) in least_all _ _ _ _ _ (rw z at c.loop-e.invariant)

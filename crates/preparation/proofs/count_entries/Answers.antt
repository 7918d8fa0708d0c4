-- `preparation::count_entries` meets its contract: the entries before node i are counted, block by block. Assumes nothing.
use Rattle.preparation.proofs.Counting.{counting_starts}
use mathlib.Core.Path.{refl}
use native.Mathlib.Omega.{arith}
use Rattle.preparation.proofs.count_entries.Goals as goal

pub returns-then-kinds-ge-RADIX : goal.returns-then-kinds-ge-RADIX
returns-then-kinds-ge-RADIX c = record { is = λ l k s. absurd (omega (arith, c.if-kinds-ge-RADIX.true)) }

pub loop-i-init : goal.loop-i-init
loop-i-init c = (omega arith, c.if-kinds-ge-RADIX.false, counting_starts _ _ refl refl)

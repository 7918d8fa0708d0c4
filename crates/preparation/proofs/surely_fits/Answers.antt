-- `preparation::surely_fits` meets its contract. Assumes nothing.
use native.Mathlib.Omega.{arith}
use borrow.Author.Tests.{ltb-true}
use Rattle.scopes.specs.Entries.{radix}
use Rattle.preparation.proofs.Checking.{fitting}
use Rattle.preparation.proofs.surely_fits.Goals as goal

pub returns-then-index-symbols : goal.returns-then-index-symbols
returns-then-index-symbols c = λ e. fitting c.largest.ensures (omega (arith, c.index.ensures, c.if-index-symbols.true)) c.largest-then-index-symbols.ensures (ltb-true c.largest-then-index-symbols.result radix e)

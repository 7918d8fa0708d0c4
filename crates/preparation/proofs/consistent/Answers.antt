-- `preparation::consistent` meets its contract. Assumes nothing.
use native.Mathlib.Omega.{arith}
use Rattle.preparation.proofs.Checking.{passing_starts, passing_goes_on, passing_ends, too_many, too_short, outside, too_high, fits_surely}
use Rattle.preparation.proofs.consistent.Goals as goal
use Rattle.preparation.proofs.consistent.Goals.{then-symbols-k-via-then-symbols-k, then-symbols-k-via-else-symbols-k+then-symbols-k-ge-RADIX}

pub returns-then-kinds-ge-RADIX : goal.returns-then-kinds-ge-RADIX
returns-then-kinds-ge-RADIX c = too_many c.if-kinds-ge-RADIX.true

pub returns-then-min-kinds : goal.returns-then-min-kinds
returns-then-min-kinds c = too_short c.min.ensures c.if-min-kinds.true

pub returns-then-surely_fits : goal.returns-then-surely_fits
returns-then-surely_fits c = fits_surely c.if-kinds-ge-RADIX.false (omega (arith, c.if-min-kinds.false, c.min.ensures))
    (omega (arith, c.if-min-kinds.false, c.min.ensures)) (c.surely_fits.ensures c.if-surely_fits.true)

pub loop-i-init : goal.loop-i-init
loop-i-init c = passing_starts c.if-kinds-ge-RADIX.false (omega (
  arith,
  c.if-min-kinds.false,
  c.min.ensures,
)) (omega (arith, c.if-min-kinds.false, c.min.ensures))

pub bounds-tokens-i : goal.bounds-tokens-i
bounds-tokens-i c = omega (arith, c.loop-i.invariant.tokens, c.loop-i-test.true)

pub returns-then-symbols-k : goal.returns-then-symbols-k
returns-then-symbols-k c =
    elim c.then-symbols-k.branch [
      | then-symbols-k-via-then-symbols-k w ↦ outside c.loop-i-test.true (omega (arith, c.index-k.ensures, w.if-symbols-k.true))
      | then-symbols-k-via-else-symbols-k+then-symbols-k-ge-RADIX w ↦ too_high c.loop-i-test.true (rw c.index-k.ensures at w.if-symbols-k-ge-RADIX.true)
    ]

pub overflow_cast-symbols : goal.overflow_cast-symbols
overflow_cast-symbols c = omega (arith, c.type_inv.symbols c.index-k.result)

pub loop-i-preserved : goal.loop-i-preserved
loop-i-preserved c = passing_goes_on c.loop-i.invariant (omega (
  arith,
  c.index-k.ensures,
  c.if-symbols-k.false,
)) (rw c.index-k.ensures at c.if-symbols-k-ge-RADIX.false)

pub returns : goal.returns
returns c = passing_ends c.loop-i.invariant c.loop-i-test.false

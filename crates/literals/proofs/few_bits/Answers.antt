-- `literals::few_bits` meets its contract: what is to come, after the number so far, gives the whole, and stays below the bound. Assumes nothing.
use Rattle.literals.proofs.Numerals.{few_starts, few_fits, few_more, few_ends}
use native.Mathlib.Omega.{arith}
use Rattle.literals.proofs.few_bits.Goals as goal

pub loop-b-init : goal.loop-b-init
loop-b-init c = few_starts

pub overflow_mul-v : goal.overflow_mul-v
overflow_mul-v c = let h = few_fits c.loop-b.invariant c.loop-b-test.true c.requires in omega (arith, h)

pub overflow_add-v : goal.overflow_add-v
overflow_add-v c = let h = few_fits c.loop-b.invariant c.loop-b-test.true c.requires in omega (arith, h, c.digit.ensures.1)

pub loop-b-preserved : goal.loop-b-preserved
loop-b-preserved c = few_more c.loop-b.invariant c.loop-b-test.true c.digit.ensures.0 c.digit.ensures.1

pub returns : goal.returns
returns c = few_ends c.loop-b.invariant c.loop-b-test.false (omega arith) c.requires

-- `strings::compare` meets its contract: the bytes before a place are the same, until two differ; the rest is compared whole. Assumes nothing.
use native.Mathlib.Omega.{arith}
use Rattle.strings.proofs.Laws.{other_byte, compares_more, compares_rest}
use Rattle.strings.proofs.compare.Goals as goal

pub returns-then-x-y : goal.returns-then-x-y
returns-then-x-y c = rw c.cmp.ensures (other_byte c.loop-i.invariant (omega (arith, c.loop-i-test.true, c.min-i-end.ensures, c.min-l.ensures)) c.if-x-y.true)

pub loop-i-preserved : goal.loop-i-preserved
loop-i-preserved c = compares_more c.loop-i.invariant (omega (arith, c.loop-i-test.true, c.min-i-end.ensures, c.min-l.ensures)) c.if-x-y.false

pub returns : goal.returns
returns c = rw (c.then.ensures, c.cmp-2.ensures, c.cmp-3.ensures) (compares_rest _ _ _ c.min-l.ensures)

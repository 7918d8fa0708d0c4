-- `cycles::least` meets its contract: none before had one. Assumes nothing.
use Rattle.cycles.proofs.Scan.{grouped, by_state, by_row}
use borrow.Author.Count.{below_more}
use native.Mathlib.Omega.{arith}
use Rattle.cycles.proofs.least.Goals as goal

pub returns-then-inner : goal.returns-then-inner
returns-then-inner c = let row = c.inner.ensures (grouped c.requires c.loop-v-test.true) in
    record { low = c.loop-v-test.true; before = c.loop-v.invariant; has = by_state (row.yes c.if-inner.true) }

pub loop-v-preserved : goal.loop-v-preserved
loop-v-preserved c = let row = c.inner.ensures (grouped c.requires c.loop-v-test.true) in
    below_more _ _ c.loop-v.invariant (λ i. row.no c.if-inner.false (by_row i))

pub returns : goal.returns
returns c = λ k l. c.loop-v.invariant k (omega (arith, c.loop-v-test.false))

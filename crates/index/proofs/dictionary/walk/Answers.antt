-- `index::dictionary::walk` meets its contract: by the laws of `Walking`; links rise, so the walk ends. Assumes nothing.
use Rattle.index.proofs.Entries.{walking_starts, walking_hits, walking_ends, walking_leaves, walking_goes_on}
use native.Mathlib.Omega.{arith}
use Rattle.index.proofs.dictionary.walk.Goals as goal

pub loop-at-init : goal.loop-at-init
loop-at-init c = walking_starts

pub returns-then-keys-k : goal.returns-then-keys-k
returns-then-keys-k c = walking_leaves c.loop-at.invariant c.loop-at-test.true (omega arith)

pub returns-then-keys-k-2 : goal.returns-then-keys-k-2
returns-then-keys-k-2 c = walking_hits c.loop-at.invariant c.loop-at-test.true c.if-keys-k.false c.if-keys-k-2.true

pub returns-then-next-k : goal.returns-then-next-k
returns-then-next-k c = walking_leaves c.loop-at.invariant c.loop-at-test.true (omega arith)

pub loop-at-preserved : goal.loop-at-preserved
loop-at-preserved c = walking_goes_on c.loop-at.invariant _
    c.loop-at-test.true c.if-keys-k.false
    c.if-keys-k-2.false c.index-link.ensures

pub returns : goal.returns
returns c = walking_ends c.loop-at.invariant c.loop-at-test.false

-- `chains::Names::along` meets its contract: by the laws of `Walk`; the token falls with each turn, so the walk ends whatever `next` holds. Assumes nothing.
use borrow.Author.Rules.{rules}
use Rattle.chains.proofs.Chains.{walk_starts, walk_leaves, walk_inside, walk_hits, walk_goes_on, walk_finds_room, walk_finds_none}
use native.Mathlib.Omega.{arith}
use Rattle.chains.proofs.Names.along.Goals as goal

pub loop-link-init : goal.loop-link-init
loop-link-init c = walk_starts _ _ _ c.requires

pub returns-then-below-k : goal.returns-then-below-k
returns-then-below-k c = walk_leaves _ _ _ c.loop-link.invariant c.loop-link-test.true c.if-below-k.true

pub spelled-requires : goal.spelled-requires
spelled-requires c = let y = walk_inside _ _ _ c.loop-link.invariant c.loop-link-test.true c.if-below-k.false in (y.0, y.1)

pub returns-then-spelled : goal.returns-then-spelled
returns-then-spelled c = walk_hits _ _ _ c.loop-link.invariant c.loop-link-test.true c.if-below-k.false c.spelled.ensures c.if-spelled.true

pub offset_bounds-self-k : goal.offset_bounds-self-k
offset_bounds-self-k c = let y = (walk_inside _ _ _ c.loop-link.invariant c.loop-link-test.true c.if-below-k.false).2 in search rules

pub bounds-self-k : goal.bounds-self-k
bounds-self-k c = (walk_inside _ _ _ c.loop-link.invariant c.loop-link-test.true c.if-below-k.false).2

pub overflow_add-passed : goal.overflow_add-passed
overflow_add-passed c = let low = c.loop-link.invariant.low in
    let fits = c.ranges.limit in
    omega (arith, low, fits, c.if-below-k.false)

pub loop-link-preserved : goal.loop-link-preserved
loop-link-preserved c = let w = c.loop-link.invariant in
    walk_goes_on _ _ _ w c.loop-link-test.true c.if-below-k.false c.spelled.ensures
    c.if-spelled.false c.index-link.ensures

pub returns-then-passed-lt-FULL : goal.returns-then-passed-lt-FULL
returns-then-passed-lt-FULL c = walk_finds_room _ _ _ c.loop-link.invariant c.loop-link-test.false c.if-passed-lt-FULL.true

pub returns : goal.returns
returns c = walk_finds_none _ _ _ c.loop-link.invariant c.loop-link-test.false c.if-passed-lt-FULL.false

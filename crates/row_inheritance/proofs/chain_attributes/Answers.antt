-- `row_inheritance::chain_attributes` meets its contract. Assumes nothing.
use Rattle.row_inheritance.proofs.Chaining.{chaining_starts, chaining_ends, chaining_skip, chaining_more}
use Rattle.row_inheritance.proofs.chain_attributes.Goals as goal

pub loop-v-init : goal.loop-v-init
loop-v-init c = chaining_starts c.start.ensures c.back-e.ensures

pub loop-v-preserved-then-both : goal.loop-v-preserved-then-both
loop-v-preserved-then-both c = chaining_more c.loop-v.invariant c.loop-v-test.true
    c.start-in-loop-v.ensures c.back-e-in-loop-v.ensures c.get_or-rank.ensures c.index.ensures
    c.has.ensures c.both.ensures c.if-both.true c.enter_entries-count.ensures
    c.enter_entries-count.auto.heads c.enter_entries-count.auto.pairs

pub loop-v-preserved : goal.loop-v-preserved
loop-v-preserved c = chaining_skip c.loop-v.invariant c.loop-v-test.true c.start-in-loop-v.ensures c.back-e-in-loop-v.ensures c.get_or-rank.ensures c.index.ensures c.has.ensures c.both.ensures c.if-both.false

pub shape_of-table : goal.shape_of-table
shape_of-table c = c.loop-v.invariant.long

pub shape_of-pairs : goal.shape_of-pairs
shape_of-pairs c = c.loop-v.invariant.pairs_long

pub returns : goal.returns
returns c = chaining_ends c.loop-v.invariant c.loop-v-test.false

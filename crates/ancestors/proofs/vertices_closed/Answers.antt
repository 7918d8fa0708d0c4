-- `ancestors::vertices_closed` meets its contract. Assumes nothing.
use mathlib.Core.Bool.{not}
use mathlib.Core.Path.{◌∙◌, ap}
use Rattle.ancestors.proofs.Steps.{testing_start, testing_no, testing_step, testing_pass, testing_end}
use Rattle.ancestors.proofs.vertices_closed.Goals as goal

pub loop-v-init : goal.loop-v-init
loop-v-init c = testing_start

pub returns-then-not-arcs_closed : goal.returns-then-not-arcs_closed
returns-then-not-arcs_closed c = let t = c.loop-v-test.true in
    let r = (c.index-rank.ensures ∙ c.get_or.ensures) in
    let n = c.if-rank-ne0.true in
    let from = c.index-from.ensures ∙ c.get_or-then-rank-ne0.ensures in
    let end = c.index-end.ensures ∙ c.get_or-then-rank-ne0-2.ensures in
    testing_no c.loop-v.invariant t r n from end c.arcs_closed.ensures (ap not c.if-not-arcs_closed.true)

pub loop-v-preserved-else-not-arcs_closed : goal.loop-v-preserved-else-not-arcs_closed
loop-v-preserved-else-not-arcs_closed c = let t = c.loop-v-test.true in
    let r = (c.index-rank.ensures ∙ c.get_or.ensures) in
    let n = c.if-rank-ne0.true in
    let from = c.index-from.ensures ∙ c.get_or-then-rank-ne0.ensures in
    let end = c.index-end.ensures ∙ c.get_or-then-rank-ne0-2.ensures in
    testing_step c.loop-v.invariant t r n from end c.arcs_closed.ensures (ap not c.if-not-arcs_closed.false)

pub loop-v-preserved : goal.loop-v-preserved
loop-v-preserved c = testing_pass c.loop-v.invariant c.loop-v-test.true (c.index-rank.ensures ∙ c.get_or.ensures) c.if-rank-ne0.false

pub returns : goal.returns
returns c = testing_end c.loop-v.invariant c.loop-v-test.false

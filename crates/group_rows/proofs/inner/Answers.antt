-- `group_rows::inner` meets its contract: by the laws of `Looking`. Assumes nothing.
use Rattle.group_rows.proofs.Scan.{looking_start, looking_place, looking_hit, looking_step, looking_end}
use Rattle.graph.proofs.Test.{tells_no, tells_yes}
use mathlib.Core.Path.{refl}
use native.Mathlib.Omega.{arith}
use Rattle.group_rows.proofs.inner.Goals.{then-v-ge-MOST-via-then-v-ge-MOST, then-v-ge-MOST-via-else-v-ge-MOST+then-first-v, then-v-ge-MOST-via-else-v-ge-MOST+else-first-v+then-s-v}
use Rattle.group_rows.proofs.inner.Goals as goal

pub returns-then-v-ge-MOST : goal.returns-then-v-ge-MOST
returns-then-v-ge-MOST c = λ G. elim c.then-v-ge-MOST.branch [
  | then-v-ge-MOST-via-then-v-ge-MOST w ↦ absurd (omega (arith, G.low, G.graph.small))
  | then-v-ge-MOST-via-else-v-ge-MOST+then-first-v w ↦ absurd (omega (arith, G.low))
  | then-v-ge-MOST-via-else-v-ge-MOST+else-first-v+then-s-v w ↦ absurd (omega (arith, G.low, G.room))
]

pub loop-e-init : goal.loop-e-init
loop-e-init c = looking_start c.args.v c.get-own.ensures
    c.index-start.ensures c.index.ensures c.min-end.ensures

pub bounds-to-e : goal.bounds-to-e
bounds-to-e c = looking_place c.loop-e.invariant c.loop-e-test.true

pub returns-then-in_group : goal.returns-then-in_group
returns-then-in_group c = λ G. tells_yes refl (looking_hit c.loop-e.invariant c.loop-e-test.true c.index-in-loop-e.ensures
    c.in_group.ensures c.if-in_group.true G)

pub loop-e-preserved : goal.loop-e-preserved
loop-e-preserved c = looking_step c.loop-e.invariant c.loop-e-test.true c.index-in-loop-e.ensures
    c.in_group.ensures c.if-in_group.false

pub returns : goal.returns
returns c = λ G. tells_no refl (looking_end c.loop-e.invariant c.loop-e-test.false G)

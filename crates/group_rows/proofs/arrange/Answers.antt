-- `group_rows::arrange` meets its contract: by the laws of `Arranging`. Assumes nothing.
use Rattle.group_rows.proofs.Scan.{arranging_start, arranging_step, arranging_end}
use native.Mathlib.Omega.{arith}
use Rattle.group_rows.proofs.arrange.Goals.{then-n-gt-MOST-via-then-n-gt-MOST, then-n-gt-MOST-via-else-n-gt-MOST+then-s-n}
use Rattle.group_rows.proofs.arrange.Goals as goal

pub returns-then-n-gt-MOST : goal.returns-then-n-gt-MOST
returns-then-n-gt-MOST c = λ B. elim c.then-n-gt-MOST.branch [
  | then-n-gt-MOST-via-then-n-gt-MOST w ↦ absurd (omega (arith, B.small))
  | then-n-gt-MOST-via-else-n-gt-MOST+then-s-n w ↦ absurd (omega (arith, B.scratch_room))
]

pub loop-v-init : goal.loop-v-init
loop-v-init c = arranging_start c.args.order.now c.args.s.now c.args.n

pub loop-v-preserved : goal.loop-v-preserved
loop-v-preserved c = arranging_step c.loop-v.invariant c.loop-v-test.true c.get-k.ensures (c.number.ensures (omega arith)) c.put.ensures

pub shape_of-order : goal.shape_of-order
shape_of-order c = c.loop-v.invariant.long

pub returns : goal.returns
returns c = arranging_end c.loop-v.invariant c.loop-v-test.false

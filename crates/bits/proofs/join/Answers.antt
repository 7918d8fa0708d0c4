use native.Mathlib.Omega.{arith}
use Rattle.bits.proofs.Strings.{too_long, sum_fits, joined}
use Rattle.bits.proofs.join.Goals as goal

pub returns-then-a-b-gt-MOST : goal.returns-then-a-b-gt-MOST
returns-then-a-b-gt-MOST c = let s = c.args in too_long s.a s.b (omega arith)

pub overflow_add-result : goal.overflow_add-result
overflow_add-result c = let s = c.args in
    sum_fits s.a s.b c.low-m.ensures c.low-n.ensures (omega arith)

pub returns : goal.returns
returns c = let s = c.args in
    joined s.a s.b c.low-m.ensures c.low-n.ensures (omega arith) (omega arith)

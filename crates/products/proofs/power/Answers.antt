use Rattle.products.proofs.Powers.{negative_power, plus_casts, power_of_none, power_zero, power_one, power_even, power_odd, power_answer, Stands, itself, by_parity}
use lib.IntN.{nat_abs}
use Rattle.integers.proofs.Exact.{own}
use Rattle.products.proofs.power.Goals as goal
use Rattle.products.proofs.power.Goals.{then-e-lt64, else-e-lt64}

pub returns-then-b-lt0 : goal.returns-then-b-lt0
returns-then-b-lt0 c = negative_power _ c.ranges.b c.if-b-lt0.true

pub overflow_cast-e : goal.overflow_cast-e
overflow_cast-e c = plus_casts c.ranges.b c.if-b-lt0.false

pub returns-then-e-eq0 : goal.returns-then-e-eq0
returns-then-e-eq0 c = power_of_none c.ranges.a c.ranges.b c.if-b-lt0.false c.if-e-eq0.true

pub returns-then-a-eq1 : goal.returns-then-a-eq1
returns-then-a-eq1 c = power_one c.ranges.a c.ranges.b c.if-b-lt0.false c.if-a-eq1.true

pub returns-then-a-eq0 : goal.returns-then-a-eq0
returns-then-a-eq0 c = power_zero c.ranges.a c.ranges.b c.if-b-lt0.false c.if-e-eq0.false c.if-a-eq0.true

pub returns-then-e-eq0-2 : goal.returns-then-e-eq0-2
returns-then-e-eq0-2 c = power_even c.ranges.a c.ranges.b c.if-b-lt0.false c.if-a-eqminus1.true c.if-e-eq0-2.true

pub returns-else-e-eq0-2 : goal.returns-else-e-eq0-2
returns-else-e-eq0-2 c = power_odd c.ranges.a c.ranges.b c.if-b-lt0.false c.if-a-eqminus1.true c.if-e-eq0-2.false

pub returns : goal.returns
returns c = power_answer c.ranges.a c.ranges.b c.if-b-lt0.false stands _ c.checked_pow.ensures c.ok_or.ensures.value
  where
    stands : Stands (nat_abs (own c.args.b)) c.if-e-lt64.n
    stands = elim c.if-e-lt64.branch [ then-e-lt64 w ↦ rw w.n-is (itself _ w.if-e-lt64.true) | else-e-lt64 w ↦ rw w.n-is (by_parity _ w.if-e-lt64.false) ]

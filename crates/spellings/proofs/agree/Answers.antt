-- `spellings::agree` meets its contract: by the laws of digits. Assumes nothing.
use Rattle.spellings.proofs.Blocks.{room_for_four, agrees, agrees_not}
use native.Mathlib.Omega.{arith}
use Rattle.spellings.proofs.agree.Goals as goal

pub returns-then-differing-ne0 : goal.returns-then-differing-ne0
returns-then-differing-ne0 c = agrees_not

pub overflow_mul-result : goal.overflow_mul-result
overflow_mul-result c = omega (
  arith,
  room_for_four c.args.a c.args.b c.args.n (omega (
    arith,
    c.ranges.a,
  )) (omega (arith, c.ranges.b)) c.first_bytes-differing.ensures c.if-differing-ne0.false,
)

pub returns : goal.returns
returns c = agrees c.args.a c.args.b c.args.n
    c.first_bytes-differing.ensures c.if-differing-ne0.false c.high_at_others.ensures

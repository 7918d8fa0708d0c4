-- `spellings::first_bytes` meets its contract: a shift by fewer than all bits makes the power. Assumes nothing.
use Rattle.spellings.proofs.Blocks.{some_bytes, first_few, first_all}
use native.Mathlib.Omega.{arith}
use Rattle.spellings.proofs.first_bytes.Goals as goal

pub nonzero_rem-result : goal.nonzero_rem-result
nonzero_rem-result c = some_bytes c.args.n c.if-n-lt-EIGHT.true

pub returns-then-n-lt-EIGHT : goal.returns-then-n-lt-EIGHT
returns-then-n-lt-EIGHT c = first_few c.args.n c.if-n-lt-EIGHT.true c.args.x

pub returns : goal.returns
returns c = first_all c.args.x c.args.n (omega (arith, c.ranges.x)) c.if-n-lt-EIGHT.false

-- `lines::put_integer` meets its contract: -1 - z fits where z is below 0, also for the least integer. Assumes nothing.
use Rattle.lines.proofs.Numbers.{opposite_fits, put_minus, put_plus}
use Rattle.lines.proofs.put_integer.Goals as goal

pub overflow_sub-z : goal.overflow_sub-z
overflow_sub-z c = opposite_fits _ c.ranges.z
    c.if-z-lt0.true

pub returns-then-z-lt0 : goal.returns-then-z-lt0
returns-then-z-lt0 c = search put_minus

pub returns : goal.returns
returns c = search put_plus

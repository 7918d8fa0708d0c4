-- `lines::bit` meets its contract: past the highest bit there is none. Assumes nothing.
use Rattle.lines.proofs.Numbers.{bit_none, bit_unset}
use Rattle.lines.proofs.bit.Goals.{else-weight-le-LAST_BIT-via-then-weight-le-LAST_BIT+else-n-weight-eq1, else-weight-le-LAST_BIT-via-else-weight-le-LAST_BIT}
use Rattle.lines.proofs.bit.Goals as goal

pub returns-else-weight-le-LAST_BIT : goal.returns-else-weight-le-LAST_BIT
returns-else-weight-le-LAST_BIT c = elim c.else-weight-le-LAST_BIT.branch [
  | else-weight-le-LAST_BIT-via-then-weight-le-LAST_BIT+else-n-weight-eq1 w ↦ bit_unset _ w.if-n-weight-eq1.false
  | else-weight-le-LAST_BIT-via-else-weight-le-LAST_BIT w ↦ bit_none _ _ c.ranges.n.fits w.if-weight-le-LAST_BIT.false
]

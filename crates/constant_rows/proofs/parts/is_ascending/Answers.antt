-- `constant_rows::parts::is_ascending` meets its contract: what is left of the order decides. Assumes nothing.
use Rattle.constant_rows.proofs.Grouping.{rising_ends, rising_falls, rising_out, rising_on}
use Rattle.constant_rows.proofs.parts.is_ascending.Goals as goal
use Rattle.constant_rows.proofs.parts.is_ascending.Goals.{then-d-last-via-then-d-last, then-d-last-via-else-d-last+then-d-kinds}

pub returns-then-d-last : goal.returns-then-d-last
returns-then-d-last c =
    elim c.then-d-last.branch [
      | then-d-last-via-then-d-last w ↦ rising_falls c.loop-declaration.invariant c.loop-declaration-test.true c.index-d.ensures w.if-d-last.true
      | then-d-last-via-else-d-last+then-d-kinds w ↦
          rising_out c.loop-declaration.invariant c.loop-declaration-test.true c.index-d.ensures w.if-d-last.false w.if-d-kinds.true
    ]

pub loop-declaration-preserved : goal.loop-declaration-preserved
loop-declaration-preserved c = rising_on c.loop-declaration.invariant c.loop-declaration-test.true c.index-d.ensures c.if-d-last.false c.if-d-kinds.false

pub returns : goal.returns
returns c = rising_ends c.loop-declaration.invariant c.loop-declaration-test.false

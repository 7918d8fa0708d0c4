-- `spellings::short_block` meets its contract: the bytes that a short word does not have are 0. Assumes nothing.
use Rattle.spellings.proofs.Spellings.{no_byte, one_byte, two_bytes, three_bytes}
use native.Mathlib.Omega.{arith}
use Rattle.spellings.proofs.short_block.Goals as goal

pub returns-then-n-eq0 : goal.returns-then-n-eq0
returns-then-n-eq0 c = no_byte _ c.requires c.if-n-eq0.true

pub returns-then-n-eq1 : goal.returns-then-n-eq1
returns-then-n-eq1 c = one_byte _ c.requires c.if-n-eq1.true c.wide-first.ensures.0

pub returns-then-n-eq2 : goal.returns-then-n-eq2
returns-then-n-eq2 c = two_bytes _ c.requires c.if-n-eq2.true c.wide-first.ensures.0
    c.wide-middle.ensures.0

pub returns : goal.returns
returns c = let p = c.requires in
    three_bytes _ p (omega (arith, p, c.if-n-eq0.false, c.if-n-eq1.false, c.if-n-eq2.false))
    c.wide-first.ensures.0 c.wide-middle.ensures.0 c.wide-last.ensures.0

-- `spellings::surely_alike` meets its contract: the bytes before i agree, by the laws of `Comparing`. Assumes nothing.
use Rattle.spellings.proofs.Blocks.{comparing_starts, comparing_goes_on, comparing_ends, alike_not, told}
use native.Mathlib.Omega.{arith}
use Rattle.spellings.proofs.surely_alike.Goals as goal

pub returns-then-not-inside : goal.returns-then-not-inside
returns-then-not-inside c = alike_not

pub loop-i-init : goal.loop-i-init
loop-i-init c = comparing_starts (c.inside.ensures (told c.inside.result c.if-not-inside.false-raw))
    (c.inside-else-not-inside.ensures (told c.inside-else-not-inside.result c.if-not-inside-2.false-raw))

pub returns-then-not-agree : goal.returns-then-not-agree
returns-then-not-agree c = alike_not

pub loop-i-preserved : goal.loop-i-preserved
loop-i-preserved c = comparing_goes_on (λ j. omega (arith, c.type_inv.s j))
    c.loop-i.invariant c.eight.ensures c.eight-in-loop-i.ensures
    c.agree.ensures (told c.agree.result c.if-not-agree.false-raw)

pub returns : goal.returns
returns c = comparing_ends c.loop-i.invariant c.loop-i-test.false

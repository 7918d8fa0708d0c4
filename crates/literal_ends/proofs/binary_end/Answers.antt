use borrow.Author.Tests.{le-leb, lt-leb, eq-eqb, ne_eqb}
use Prim.Native.Nat.{◌+◌}
use Rattle.express.specs.Tokens.Lexis.{end_of_binary}
use Rattle.blanks.specs.Step.{member}
use Rattle.blanks.specs.declared.Class.TheVariants.{Bit}
use Rattle.express.proofs.Tokens.Places.{run_low}
use Rattle.literal_ends.proofs.Numbers.{binary_over}
use native.Mathlib.Omega.{arith}
use Rattle.literal_ends.proofs.binary_end.Goals as goal

pub returns-then-at-s : goal.returns-then-at-s
returns-then-at-s c = binary_over _ _ c.if-at-s.true

pub overflow_sub-bits : goal.overflow_sub-bits
overflow_sub-bits c = omega (arith, c.run_end-end.ensures, run_low (member Bit) c.args.s.now (c.args.at + 1))

pub returns-then-bits-eq0 : goal.returns-then-bits-eq0
unfolding end_of_binary
returns-then-bits-eq0 c = rw (← c.run_end-end.ensures, eq-eqb _ _ c.if-bits-eq0.true)

pub returns-then-bits-gt-BITS : goal.returns-then-bits-gt-BITS
unfolding end_of_binary
returns-then-bits-gt-BITS c = rw (← c.run_end-end.ensures, ne_eqb _ _ c.if-bits-eq0.false, lt-leb _ _ c.if-bits-gt-BITS.true)

pub returns : goal.returns
unfolding end_of_binary
returns c = rw (← c.run_end-end.ensures, ne_eqb _ _ c.if-bits-eq0.false, le-leb _ _ c.if-bits-gt-BITS.false)

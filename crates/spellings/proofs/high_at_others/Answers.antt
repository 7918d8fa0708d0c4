-- `spellings::high_at_others` meets its contract: the sums stay below the next byte. Assumes nothing.
use lib.Bits.{and_le_r}
use Rattle.spellings.specs.Blocks.{no_letters, ones}
use native.Mathlib.Omega.{arith}
use mathlib.Core.Path.{refl}
use Rattle.spellings.proofs.high_at_others.Goals as goal

pub overflow_add-result : goal.overflow_add-result
overflow_add-result c = omega (arith, and_le_r c.args.a 6872316419617283935)

pub overflow_sub-result : goal.overflow_sub-result
overflow_sub-result c = omega (arith, and_le_r c.args.a 6872316419617283935)

pub overflow_add-result-2 : goal.overflow_add-result-2
overflow_add-result-2 c = omega (arith, and_le_r c.args.a 6872316419617283935)

pub returns : goal.returns
unfolding no_letters ones
returns c = refl

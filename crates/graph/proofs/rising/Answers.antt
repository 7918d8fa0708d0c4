-- `graph::rising` meets its contract. Assumes nothing.
use Rattle.graph.proofs.Test.{tells_no, tells_yes}
use mathlib.Core.Path.{refl}
use native.Mathlib.Omega.{arith}
use Rattle.graph.proofs.rising.Goals as goal

pub returns-then-first-v : goal.returns-then-first-v
returns-then-first-v c = tells_no refl (λ h. omega (arith, h c.loop-v.v c.loop-v-test.true, c.if-first-v.true))

pub returns : goal.returns
returns c = tells_yes refl (λ k l. c.loop-v.invariant k (omega arith))

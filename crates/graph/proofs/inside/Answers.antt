-- `graph::inside` meets its contract. Assumes nothing.
use Rattle.graph.proofs.Test.{tells_no, tells_yes, inside_more}
use mathlib.Core.Path.{refl}
use native.Mathlib.Omega.{arith}
use Rattle.graph.proofs.inside.Goals as goal

pub returns-then-n-index : goal.returns-then-n-index
returns-then-n-index c = tells_no refl (λ h. omega (
  arith,
  h c.loop-e.e c.loop-e.auto.e
      c.loop-e-test.true,
  c.index.ensures,
  c.if-n-index.true,
))

pub loop-e-preserved : goal.loop-e-preserved
loop-e-preserved c = inside_more c.args.to.now c.args.from c.loop-e.e c.args.n _ c.loop-e.invariant c.index.ensures c.if-n-index.false

pub returns : goal.returns
returns c = tells_yes refl (λ k f l. c.loop-e.invariant k f (omega arith))

-- The table of steps is computed; what is found from each token on is what is found from the start.
use mathlib.Core.Path.{◌≡◌, refl, sym, ◌∙◌}
use Rattle.ebnf.specs.Set.{mem}
use Rattle.columns.specs.Column.{tabulated}
use Rattle.parsing.proofs.Limit.{deep_start, deep_here, deep_on, deep_end}
use native.Mathlib.Omega.{arith}
use lib.ListN.{length}
use Rattle.nesting.proofs.first_deep.Goals as goal

pub loop-i-init : goal.loop-i-init
unfolding mem tabulated
loop-i-init c = (
  rw (
    c.byte_index.ensures.0,
    c.byte_index-2.ensures.0,
    c.byte_index-3.ensures.0,
    c.byte_index-4.ensures.0,
  ) refl,
  omega arith,
  omega arith,
  deep_start c.args.terminals.now,
)

pub returns-then-depth-gt-NESTING : goal.returns-then-depth-gt-NESTING
returns-then-depth-gt-NESTING c = deep_here c.args.terminals.now
    c.loop-i.i c.loop-i.depth _ (omega arith) refl
    c.nested-depth.result c.nested-depth.ensures c.loop-i.invariant.2 c.if-depth-gt-NESTING.true
    ∙ c.loop-i.invariant.3

pub loop-i-preserved : goal.loop-i-preserved
loop-i-preserved c = (
  c.loop-i.invariant.0,
  omega arith,
  omega arith,
  sym (deep_on c.args.terminals.now
      c.loop-i.i c.loop-i.depth _ (omega arith) refl
      c.nested-depth.result c.nested-depth.ensures (λ h. omega (arith, h, c.if-depth-gt-NESTING.false))) ∙ c.loop-i.invariant.3,
)

pub returns : goal.returns
returns c = let e : length c.args.terminals.now ≡ c.loop-i.i = omega arith in
    e ∙ (deep_end c.args.terminals.now c.loop-i.i c.loop-i.depth (omega arith) (omega arith) ∙ c.loop-i.invariant.3)

-- The end of the remark from here on, at the depth reached, is that of the whole (`Turns`).
use mathlib.Core.Path.{refl, sym, ◌∙◌}
use Rattle.blanks.proofs.Turns.{remark_over, remark_deeper, remark_out, remark_done, remark_on, remark_pass}
use native.Mathlib.Omega.{arith}
use Rattle.blanks.proofs.remark_end.Goals as goal

pub loop-i-init : goal.loop-i-init
loop-i-init c = (omega arith, omega arith, omega arith, refl)

pub loop-i-preserved-then-is_pair : goal.loop-i-preserved-then-is_pair
loop-i-preserved-then-is_pair c = (
  omega arith,
  omega arith,
  omega arith,
  sym (remark_deeper _ _ _ _ c.loop-i-test.true (sym c.is_pair.ensures ∙ c.if-is_pair.true)) ∙ c.loop-i.invariant.3,
)

pub returns-then-depth-eq1 : goal.returns-then-depth-eq1
returns-then-depth-eq1 c = sym
    (remark_done _ _ _ _ c.loop-i-test.true (sym c.is_pair.ensures ∙ c.if-is_pair.false) (sym c.is_pair-else-is_pair.ensures ∙ c.if-is_pair-2.true)
    c.if-depth-eq1.true)
    ∙ c.loop-i.invariant.3

pub loop-i-preserved-then-is_pair-2 : goal.loop-i-preserved-then-is_pair-2
loop-i-preserved-then-is_pair-2 c = (
  omega arith,
  omega arith,
  omega arith,
  sym
      (remark_out _ _ _ _ c.loop-i-test.true (sym c.is_pair.ensures ∙ c.if-is_pair.false) (sym c.is_pair-else-is_pair.ensures ∙ c.if-is_pair-2.true)
      c.if-depth-eq1.false)
      ∙ c.loop-i.invariant.3,
)

pub loop-i-preserved-else-is_pair-2 : goal.loop-i-preserved-else-is_pair-2
loop-i-preserved-else-is_pair-2 c = (
  omega arith,
  omega arith,
  omega arith,
  sym (remark_on _ _ _ _ c.loop-i-test.true (sym c.is_pair.ensures ∙ c.if-is_pair.false) (sym c.is_pair-else-is_pair.ensures ∙ c.if-is_pair-2.false)) ∙
      c.loop-i.invariant.3,
)

pub loop-i-preserved : goal.loop-i-preserved
loop-i-preserved c = (
  omega arith,
  omega arith,
  omega arith,
  sym (remark_pass _ _ _ _ c.loop-i-test.true (sym c.is_either.ensures ∙ c.if-is_either.false)) ∙ c.loop-i.invariant.3,
)

pub returns : goal.returns
returns c = sym (remark_over _ _ _ _ c.loop-i-test.false) ∙ c.loop-i.invariant.3

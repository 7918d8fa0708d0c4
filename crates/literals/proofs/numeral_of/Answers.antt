-- The digits still to come, after the number so far, give the whole; once it is above the bound it stays there (`Numerals`).
use mathlib.Core.Path.{refl, sym, ap, ◌∙◌}
use Rattle.literals.specs.Literal.{capped}
use Rattle.literals.proofs.Numerals.{digit_over, digit_fits, capped_over, capped_fits, numeral_end, numeral_more}
use Rattle.literals.proofs.numeral_of.Goals as goal

pub loop-b-init : goal.loop-b-init
loop-b-init c = (c.requires.2, refl)

pub returns-then-v-d : goal.returns-then-v-d
returns-then-v-d c = capped_over _ c.requires.0 _ _ (digit_over _ c.requires.0 _ _ c.digit-d.ensures.1 c.if-v-d.true) ∙ ap capped
    (sym (numeral_more _ _ _ _ c.loop-b-test.true c.digit-d.ensures.0) ∙ c.loop-b.invariant.1)

pub loop-b-preserved : goal.loop-b-preserved
loop-b-preserved c = (
  digit_fits _ c.requires.0 _ _ c.digit-d.ensures.1 c.if-v-d.false,
  sym (numeral_more _ _ _ _ c.loop-b-test.true c.digit-d.ensures.0) ∙ c.loop-b.invariant.1,
)

pub returns : goal.returns
returns c = capped_fits _ c.loop-b.invariant.0 ∙ ap capped (sym (numeral_end _ _ _ _ c.loop-b-test.false) ∙ c.loop-b.invariant.1)

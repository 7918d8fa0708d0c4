use mathlib.Core.Path.{sym, ◌∙◌, ap}
use lib.ListN.{get_or}
use Rattle.express.specs.Tokens.Bytes.{within}
use Rattle.express.specs.Tokens.Lexis.{run}
use Rattle.literal_ends.proofs.Numbers.{exponent_over, exponent_none, exponent_bare, exponent_is}
use Rattle.blanks.specs.Step.{member}
use Rattle.blanks.specs.declared.Class.TheVariants.{Digit}
use Rattle.literal_ends.proofs.exponent_end.Goals as goal

pub returns-then-at-s : goal.returns-then-at-s
returns-then-at-s c = sym (exponent_over _ _ c.if-at-s.true)

pub returns-then-not-is_either : goal.returns-then-not-is_either
returns-then-not-is_either c = sym (exponent_none _ _ (sym c.is_either.ensures ∙ c.if-not-is_either.true))

pub returns-then-not-is_within : goal.returns-then-not-is_within
returns-then-not-is_within c = sym
    (exponent_bare _ _
    (sym (c.is_within.ensures ∙ ap (within 48 57) (c.get_or.ensures ∙ ap (λ g. get_or c.args.s.now g 0) c.exponent_digits-digits.ensures))
    ∙ c.if-not-is_within.true))

pub returns : goal.returns
returns c = c.run_end.ensures ∙ ap (λ g. run (member Digit) c.args.s.now g) c.exponent_digits-digits.ensures ∙ sym
    (exponent_is _ _ (sym c.is_either.ensures ∙ c.if-not-is_either.false)
    (sym (c.is_within.ensures ∙ ap (within 48 57) (c.get_or.ensures ∙ ap (λ g. get_or c.args.s.now g 0) c.exponent_digits-digits.ensures)) ∙
    c.if-not-is_within.false))

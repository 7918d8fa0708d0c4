use mathlib.Core.Path.{sym, ◌∙◌, ap}
use Rattle.blanks.specs.Step.{member}
use Rattle.blanks.proofs.is_member.Goals as goal

pub returns-in-Digit : goal.returns-in-Digit
returns-in-Digit c = c.is_within.ensures ∙ sym (ap (λ k. member k c.args.b) c.in-Digit.is)

pub returns-in-Bit : goal.returns-in-Bit
returns-in-Bit c = c.is_within-in-Bit.ensures ∙ sym (ap (λ k. member k c.args.b) c.in-Bit.is)

pub returns-in-Line : goal.returns-in-Line
returns-in-Line c = sym (ap (λ k. member k c.args.b) c.in-Line.is)

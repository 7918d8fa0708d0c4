use mathlib.Core.Path.{sym, ◌∙◌, ap}
use Rattle.express.specs.Tokens.Lexis.{either}
use Rattle.literal_ends.proofs.exponent_digits.Goals as goal

pub returns-then-is_either : goal.returns-then-is_either
returns-then-is_either c = rw (sym (c.is_either.ensures ∙ ap (either 43 45) c.get_or.ensures) ∙ c.if-is_either.true)

pub returns-else-is_either : goal.returns-else-is_either
returns-else-is_either c = rw (sym (c.is_either.ensures ∙ ap (either 43 45) c.get_or.ensures) ∙ c.if-is_either.false)

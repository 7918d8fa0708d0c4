-- `literals::integer` meets its contract: zeros in front count for nothing. Assumes nothing.
use mathlib.Core.Path.{ap, ◌∙◌}
use Rattle.express.specs.Tokens.Lexis.{integer_value}
use Rattle.literals.specs.Literal.{capped}
use Rattle.literals.proofs.Numerals.{integer_is}
use Rattle.literals.proofs.integer.Goals as goal

pub returns : goal.returns
returns c = c.numeral_of.ensures ∙ ap capped (integer_is _ c.zeros.ensures.are) ∙ ap (λ t. capped (integer_value t)) c.token-digits.ensures

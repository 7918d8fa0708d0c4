-- `literals::binary` meets its contract: the few digits in front, and from their number on the rest. Assumes nothing.
use mathlib.Core.Path.{ap, ◌∙◌}
use Rattle.express.specs.Tokens.Lexis.{binary_value}
use Rattle.literals.specs.Literal.{capped}
use Rattle.literals.proofs.Numerals.{binary_none, binary_is}
use Rattle.literals.proofs.binary.Goals as goal

pub returns-in_default : goal.returns-in_default
returns-in_default c = binary_none _ c.in_default.ensures.cases ∙ ap (λ t. capped (binary_value t)) c.token.ensures

pub returns : goal.returns
returns c = c.numeral_of.ensures ∙ ap capped (binary_is _ c.in-Some.ensures.cases.0 c.few_bits.ensures) ∙ ap (λ t. capped (binary_value t)) c.token.ensures

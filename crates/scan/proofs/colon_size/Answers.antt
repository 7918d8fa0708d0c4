use mathlib.Core.Path.{sym, ◌∙◌}
use borrow.Author.Tests.{eq-eqb, ne_eqb}
use Rattle.express.specs.Tokens.Lexis.{size_of_symbol, lone}
use Rattle.scan.proofs.colon_size.Goals as goal

pub returns-then-d-eq58 : goal.returns-then-d-eq58
unfolding size_of_symbol lone
returns-then-d-eq58 c = rw (eq-eqb _ _ c.if-c-eq61.true, eq-eqb _ _ c.if-d-eq58.true)

pub returns-then-c-eq61 : goal.returns-then-c-eq61
unfolding size_of_symbol lone
returns-then-c-eq61 c = rw (eq-eqb _ _ c.if-c-eq61.true, ne_eqb _ _ c.if-d-eq58.false)

pub returns-then-e-eq58 : goal.returns-then-e-eq58
unfolding size_of_symbol lone
returns-then-e-eq58 c = rw (ne_eqb _ _ c.if-c-eq61.false, sym c.is_pair.ensures ∙ c.if-is_pair.true, eq-eqb _ _ c.if-e-eq58.true)

pub returns-else-e-eq58 : goal.returns-else-e-eq58
unfolding size_of_symbol lone
returns-else-e-eq58 c = rw (ne_eqb _ _ c.if-c-eq61.false, sym c.is_pair.ensures ∙ c.if-is_pair.true, ne_eqb _ _ c.if-e-eq58.false)

pub returns-else-is_pair : goal.returns-else-is_pair
unfolding size_of_symbol lone
returns-else-is_pair c = rw (ne_eqb _ _ c.if-c-eq61.false, sym c.is_pair.ensures ∙ c.if-is_pair.false)

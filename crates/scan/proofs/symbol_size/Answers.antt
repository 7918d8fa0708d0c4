-- By the tests that led to each answer, which are those of the definition.
use mathlib.Core.Path.{sym, ◌∙◌, ap}
use borrow.Author.Tests.{eq-eqb, ne_eqb}
use Rattle.express.specs.Tokens.Lexis.{size_of_symbol}
use Rattle.scan.proofs.symbol_size.Goals as goal

pub returns-then-b-eq58 : goal.returns-then-b-eq58
returns-then-b-eq58 c = let a = c.args in
    c.colon_size.ensures ∙ ap (λ x. size_of_symbol x a.c a.d a.e) (sym c.if-b-eq58.true)

pub returns-then-c-eq61 : goal.returns-then-c-eq61
unfolding size_of_symbol
returns-then-c-eq61 c = rw (c.requires, ne_eqb _ _ c.if-b-eq58.false, eq-eqb _ _ c.if-b-eq60.true, eq-eqb _ _ c.if-c-eq61.true)

pub returns-then-is_either : goal.returns-then-is_either
unfolding size_of_symbol
returns-then-is_either c = rw (
  c.requires,
  ne_eqb _ _ c.if-b-eq58.false,
  eq-eqb _ _ c.if-b-eq60.true,
  ne_eqb _ _ c.if-c-eq61.false,
  sym c.is_either.ensures ∙ c.if-is_either.true,
)

pub returns-then-b-eq60 : goal.returns-then-b-eq60
unfolding size_of_symbol
returns-then-b-eq60 c = rw
    (c.requires, ne_eqb _ _ c.if-b-eq58.false, eq-eqb _ _ c.if-b-eq60.true, ne_eqb _ _ c.if-c-eq61.false, sym c.is_either.ensures ∙ c.if-is_either.false)

pub returns-then-c-eq61-2 : goal.returns-then-c-eq61-2
unfolding size_of_symbol
returns-then-c-eq61-2 c = rw (c.requires, ne_eqb _ _ c.if-b-eq58.false, ne_eqb _ _ c.if-b-eq60.false, eq-eqb _ _ c.if-b-eq62.true, eq-eqb _ _ c.if-c-eq61-2.true)

pub returns-then-b-eq62 : goal.returns-then-b-eq62
unfolding size_of_symbol
returns-then-b-eq62 c = rw (c.requires, ne_eqb _ _ c.if-b-eq58.false, ne_eqb _ _ c.if-b-eq60.false, eq-eqb _ _ c.if-b-eq62.true, ne_eqb _ _ c.if-c-eq61-2.false)

pub returns-then-c-eq42 : goal.returns-then-c-eq42
unfolding size_of_symbol
returns-then-c-eq42 c = rw (
  c.requires,
  ne_eqb _ _ c.if-b-eq58.false,
  ne_eqb _ _ c.if-b-eq60.false,
  ne_eqb _ _ c.if-b-eq62.false,
  eq-eqb _ _ c.if-b-eq42.true,
  eq-eqb _ _ c.if-c-eq42.true,
)

pub returns-then-b-eq42 : goal.returns-then-b-eq42
unfolding size_of_symbol
returns-then-b-eq42 c = rw (
  c.requires,
  ne_eqb _ _ c.if-b-eq58.false,
  ne_eqb _ _ c.if-b-eq60.false,
  ne_eqb _ _ c.if-b-eq62.false,
  eq-eqb _ _ c.if-b-eq42.true,
  ne_eqb _ _ c.if-c-eq42.false,
)

pub returns-then-c-eq124 : goal.returns-then-c-eq124
unfolding size_of_symbol
returns-then-c-eq124 c = rw (
  c.requires,
  ne_eqb _ _ c.if-b-eq58.false,
  ne_eqb _ _ c.if-b-eq60.false,
  ne_eqb _ _ c.if-b-eq62.false,
  ne_eqb _ _ c.if-b-eq42.false,
  eq-eqb _ _ c.if-b-eq124.true,
  eq-eqb _ _ c.if-c-eq124.true,
)

pub returns-then-b-eq124 : goal.returns-then-b-eq124
unfolding size_of_symbol
returns-then-b-eq124 c = rw (
  c.requires,
  ne_eqb _ _ c.if-b-eq58.false,
  ne_eqb _ _ c.if-b-eq60.false,
  ne_eqb _ _ c.if-b-eq62.false,
  ne_eqb _ _ c.if-b-eq42.false,
  eq-eqb _ _ c.if-b-eq124.true,
  ne_eqb _ _ c.if-c-eq124.false,
)

pub returns : goal.returns
unfolding size_of_symbol
returns c = rw (
  c.requires,
  ne_eqb _ _ c.if-b-eq58.false,
  ne_eqb _ _ c.if-b-eq60.false,
  ne_eqb _ _ c.if-b-eq62.false,
  ne_eqb _ _ c.if-b-eq42.false,
  ne_eqb _ _ c.if-b-eq124.false,
)

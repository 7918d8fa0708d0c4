use mathlib.Core.Path.{refl, sym}
use borrow.Author.Tests.{ne_eqb}
use Rattle.express.specs.Tokens.Bytes.{same}
use Rattle.express.specs.Tokens.Terminal.{among}
use Rattle.terminals.proofs.Columns.{of_byte}
use native.Mathlib.Omega.{arith}
use Rattle.terminals.proofs.low_byte.Goals as goal

pub returns-in-40 : goal.returns-in-40
unfolding among same
returns-in-40 c = of_byte _ 40 _ c.in-40.is refl

pub returns-in-41 : goal.returns-in-41
unfolding among same
returns-in-41 c = of_byte _ 41 _ c.in-41.is refl

pub returns-in-42 : goal.returns-in-42
unfolding among same
returns-in-42 c = of_byte _ 42 _ c.in-42.is refl

pub returns-in-43 : goal.returns-in-43
unfolding among same
returns-in-43 c = of_byte _ 43 _ c.in-43.is refl

pub returns-in-44 : goal.returns-in-44
unfolding among same
returns-in-44 c = of_byte _ 44 _ c.in-44.is refl

pub returns-in-45 : goal.returns-in-45
unfolding among same
returns-in-45 c = of_byte _ 45 _ c.in-45.is refl

pub returns-in-46 : goal.returns-in-46
unfolding among same
returns-in-46 c = of_byte _ 46 _ c.in-46.is refl

pub returns-in-47 : goal.returns-in-47
unfolding among same
returns-in-47 c = of_byte _ 47 _ c.in-47.is refl

pub returns-in-58 : goal.returns-in-58
unfolding among same
returns-in-58 c = of_byte _ 58 _ c.in-58.is refl

pub returns-in-59 : goal.returns-in-59
unfolding among same
returns-in-59 c = of_byte _ 59 _ c.in-59.is refl

pub returns-in-60 : goal.returns-in-60
unfolding among same
returns-in-60 c = of_byte _ 60 _ c.in-60.is refl

pub returns-in-61 : goal.returns-in-61
unfolding among same
returns-in-61 c = of_byte _ 61 _ c.in-61.is refl

pub returns-in-62 : goal.returns-in-62
unfolding among same
returns-in-62 c = of_byte _ 62 _ c.in-62.is refl

pub returns-in-63 : goal.returns-in-63
unfolding among same
returns-in-63 c = of_byte _ 63 _ c.in-63.is refl

pub returns-in_default : goal.returns-in_default
unfolding among same
returns-in_default c = rw (
  ne_eqb 40 _ (λ e. c.in_default.in_default-own.rest.0.0.0.0.0.0.0.0.0.0.0.0.0.1 (sym e)),
  ne_eqb 41 _ (λ e. c.in_default.in_default-own.rest.0.0.0.0.0.0.0.0.0.0.0.0.1 (sym e)),
  ne_eqb 42 _ (λ e. c.in_default.in_default-own.rest.0.0.0.0.0.0.0.0.0.0.0.1 (sym e)),
  ne_eqb 43 _ (λ e. c.in_default.in_default-own.rest.0.0.0.0.0.0.0.0.0.0.1 (sym e)),
  ne_eqb 44 _ (λ e. c.in_default.in_default-own.rest.0.0.0.0.0.0.0.0.0.1 (sym e)),
  ne_eqb 45 _ (λ e. c.in_default.in_default-own.rest.0.0.0.0.0.0.0.0.1 (sym e)),
  ne_eqb 46 _ (λ e. c.in_default.in_default-own.rest.0.0.0.0.0.0.0.1 (sym e)),
  ne_eqb 47 _ (λ e. c.in_default.in_default-own.rest.0.0.0.0.0.0.1 (sym e)),
  ne_eqb 58 _ (λ e. c.in_default.in_default-own.rest.0.0.0.0.0.1 (sym e)),
  ne_eqb 59 _ (λ e. c.in_default.in_default-own.rest.0.0.0.0.1 (sym e)),
  ne_eqb 60 _ (λ e. c.in_default.in_default-own.rest.0.0.0.1 (sym e)),
  ne_eqb 61 _ (λ e. c.in_default.in_default-own.rest.0.0.1 (sym e)),
  ne_eqb 62 _ (λ e. c.in_default.in_default-own.rest.0.1 (sym e)),
  ne_eqb 63 _ (λ e. c.in_default.in_default-own.rest.1 (sym e)),
  ne_eqb 91 c.args.b (λ e. omega (arith, e, c.requires)),
  ne_eqb 92 c.args.b (λ e. omega (arith, e, c.requires)),
  ne_eqb 93 c.args.b (λ e. omega (arith, e, c.requires)),
  ne_eqb 123 c.args.b (λ e. omega (arith, e, c.requires)),
  ne_eqb 124 c.args.b (λ e. omega (arith, e, c.requires)),
  ne_eqb 125 c.args.b (λ e. omega (arith, e, c.requires)),
)

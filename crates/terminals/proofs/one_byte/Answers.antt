use mathlib.Core.Path.{refl, sym}
use borrow.Author.Tests.{ne_eqb}
use Rattle.express.specs.Tokens.Bytes.{same}
use Rattle.express.specs.Tokens.Terminal.{among}
use Rattle.terminals.proofs.Columns.{of_byte}
use native.Mathlib.Omega.{arith}
use Rattle.terminals.proofs.one_byte.Goals as goal

pub returns-then-b-le63 : goal.returns-then-b-le63
returns-then-b-le63 c = c.low_byte.ensures

pub returns-in-91 : goal.returns-in-91
unfolding among same
returns-in-91 c = of_byte _ 91 _ c.in-91.is refl

pub returns-in-92 : goal.returns-in-92
unfolding among same
returns-in-92 c = of_byte _ 92 _ c.in-92.is refl

pub returns-in-93 : goal.returns-in-93
unfolding among same
returns-in-93 c = of_byte _ 93 _ c.in-93.is refl

pub returns-in-123 : goal.returns-in-123
unfolding among same
returns-in-123 c = of_byte _ 123 _ c.in-123.is refl

pub returns-in-124 : goal.returns-in-124
unfolding among same
returns-in-124 c = of_byte _ 124 _ c.in-124.is refl

pub returns-in-125 : goal.returns-in-125
unfolding among same
returns-in-125 c = of_byte _ 125 _ c.in-125.is refl

pub returns-in_default : goal.returns-in_default
unfolding among same
returns-in_default c = rw (
  ne_eqb 40 c.args.b (λ e. omega (arith, e, c.if-b-le63.false)),
  ne_eqb 41 c.args.b (λ e. omega (arith, e, c.if-b-le63.false)),
  ne_eqb 42 c.args.b (λ e. omega (arith, e, c.if-b-le63.false)),
  ne_eqb 43 c.args.b (λ e. omega (arith, e, c.if-b-le63.false)),
  ne_eqb 44 c.args.b (λ e. omega (arith, e, c.if-b-le63.false)),
  ne_eqb 45 c.args.b (λ e. omega (arith, e, c.if-b-le63.false)),
  ne_eqb 46 c.args.b (λ e. omega (arith, e, c.if-b-le63.false)),
  ne_eqb 47 c.args.b (λ e. omega (arith, e, c.if-b-le63.false)),
  ne_eqb 58 c.args.b (λ e. omega (arith, e, c.if-b-le63.false)),
  ne_eqb 59 c.args.b (λ e. omega (arith, e, c.if-b-le63.false)),
  ne_eqb 60 c.args.b (λ e. omega (arith, e, c.if-b-le63.false)),
  ne_eqb 61 c.args.b (λ e. omega (arith, e, c.if-b-le63.false)),
  ne_eqb 62 c.args.b (λ e. omega (arith, e, c.if-b-le63.false)),
  ne_eqb 63 c.args.b (λ e. omega (arith, e, c.if-b-le63.false)),
  ne_eqb 91 _ (λ e. c.in_default.in_default-own.rest.0.0.0.0.0.1 (sym e)),
  ne_eqb 92 _ (λ e. c.in_default.in_default-own.rest.0.0.0.0.1 (sym e)),
  ne_eqb 93 _ (λ e. c.in_default.in_default-own.rest.0.0.0.1 (sym e)),
  ne_eqb 123 _ (λ e. c.in_default.in_default-own.rest.0.0.1 (sym e)),
  ne_eqb 124 _ (λ e. c.in_default.in_default-own.rest.0.1 (sym e)),
  ne_eqb 125 _ (λ e. c.in_default.in_default-own.rest.1 (sym e)),
)

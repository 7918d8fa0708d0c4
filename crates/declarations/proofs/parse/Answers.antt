-- The words lent are the first part of scratch; the rest is not touched.
use mathlib.Core.Path.{refl}
use native.Mathlib.Omega.{arith}
use Rattle.express.specs.Syntax.Grammar.{file as file'}
use Rattle.parsing.proofs.Columns.{parsing, too_long, too_little}
use Rattle.declarations.proofs.parse.Goals as goal

pub returns-then-n-gt-MOST : goal.returns-then-n-gt-MOST
returns-then-n-gt-MOST c = too_long file' c.if-n-gt-MOST.true

pub returns-then-scratch-n : goal.returns-then-scratch-n
returns-then-scratch-n c = too_little file' (omega (arith, c.if-n-gt-MOST.false)) c.if-scratch-n.true

pub returns : goal.returns
returns c = parsing refl (omega (
  arith,
  c.if-n-gt-MOST.false,
)) (omega (
  arith,
  c.if-scratch-n.false,
)) c.parse_in.ensures refl

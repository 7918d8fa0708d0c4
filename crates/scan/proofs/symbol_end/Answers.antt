use mathlib.Core.Path.{sym, ◌∙◌}
use borrow.Author.Tests.{eq-eqb, ne_eqb}
use Rattle.express.specs.Tokens.Lexis.{end_of_symbol}
use Rattle.express.proofs.Tokens.Places.{size_is, size_inside}
use Rattle.scan.proofs.Symbols.{assign_is}
use native.Mathlib.Omega.{arith}
use Rattle.scan.proofs.symbol_end.Goals as goal

pub returns-then-get_or-eq58 : goal.returns-then-get_or-eq58
returns-then-get_or-eq58 c = let a = c.args in
    rw (eq-eqb _ _ c.if-get_or-eq58.true) at
    (assign_is a.s.now a.at c.get_or-c.result c.get_or.result c.get_or-c.ensures (sym c.is_pair.ensures ∙ c.if-is_pair.true)
    c.get_or.ensures)

pub returns-then-is_pair : goal.returns-then-is_pair
returns-then-is_pair c = let a = c.args in
    rw (ne_eqb _ _ c.if-get_or-eq58.false) at
    (assign_is a.s.now a.at c.get_or-c.result c.get_or.result c.get_or-c.ensures (sym c.is_pair.ensures ∙ c.if-is_pair.true)
    c.get_or.ensures)

pub returns-then-size-eq0 : goal.returns-then-size-eq0
unfolding end_of_symbol
returns-then-size-eq0 c = rw (
  ← size_is _ _ _ _ _ _ c.get_or-c.ensures c.get_or-2.ensures c.get_or-3.ensures c.symbol_size-size.ensures,
  eq-eqb _ _ c.if-size-eq0.true,
)

pub overflow_add-result-2 : goal.overflow_add-result-2
overflow_add-result-2 c = let a = c.args in
    omega (
      arith,
      size_is a.s.now a.at c.symbol_size-size.result _ _ _ c.get_or-c.ensures c.get_or-2.ensures c.get_or-3.ensures
          c.symbol_size-size.ensures,
      size_inside a.s.now a.at c.requires.0,
    )

pub returns : goal.returns
unfolding end_of_symbol
returns c = rw
    (← size_is _ _ _ _ _ _ c.get_or-c.ensures c.get_or-2.ensures c.get_or-3.ensures c.symbol_size-size.ensures, ne_eqb _ _ c.if-size-eq0.false)

-- `symbol_tables::add_range` meets its contract. Assumes nothing.
use native.Mathlib.Omega.{arith}
use mathlib.Core.Path.{sym, ap, ◌∙◌}
use Prim.Native.Nat.{ℕ, min}
use lib.ListN.{get_or}
use Rattle.symbol_tables.proofs.Adding.{adding_starts, adding_ends, adding_skip, adding_more}
use Rattle.symbol_tables.proofs.add_range.Goals as goal

pub loop-i-init : goal.loop-i-init
loop-i-init c = (adding_starts, c.min-end.ensures ∙ ap (min c.args.hi) c.min.ensures)

pub bounds-kinds-i : goal.bounds-kinds-i
bounds-kinds-i c = omega (arith, c.loop-i.invariant.0.upto, c.loop-i.invariant.1, c.loop-i-test.true)

pub bounds-tokens-i : goal.bounds-tokens-i
bounds-tokens-i c = omega (
  arith,
  c.loop-i.invariant.0.upto,
  c.loop-i.invariant.1,
  c.loop-i-test.true,
)

pub loop-i-preserved-then-is_either : goal.loop-i-preserved-then-is_either
loop-i-preserved-then-is_either c = (
  adding_more c.loop-i.invariant.0 c.loop-i-test.true (sym c.is_either.ensures ∙ c.if-is_either.true) (c.get_or.ensures ∙ ap (λ (k : ℕ). get_or c.args.symbols.now k
      0) c.index.ensures) c.add.ensures c.add.auto.table,
  c.loop-i.invariant.1,
)

pub loop-i-preserved : goal.loop-i-preserved
loop-i-preserved c = (
  adding_skip c.loop-i.invariant.0 c.loop-i-test.true (sym c.is_either.ensures ∙
      c.if-is_either.false),
  c.loop-i.invariant.1,
)

pub shape_of-table : goal.shape_of-table
shape_of-table c = c.loop-i.invariant.0.long

pub returns : goal.returns
returns c = adding_ends c.loop-i.invariant.0 c.loop-i.invariant.1 c.loop-i-test.false

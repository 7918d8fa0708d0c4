use mathlib.Core.Path.{◌≡◌}
use Rattle.symbol_tables.specs.Table.{reach}
use Rattle.symbol_tables.proofs.Adding.{Adding}
use Rattle.symbol_tables.proofs.add_range.Given as goal

abbrev pub invariant-loop-i : goal.invariant-loop-i
invariant-loop-i l = Adding l.kinds l.tokens l.symbols l.one l.other l.lo l.end l.stamp l.initial.table l.table l.i × (l.end ≡ reach l.kinds l.tokens l.hi)

use mathlib.Core.Path.{◌≡◌}
use mathlib.Core.Logic.{◌⊎◌}
use Prim.Native.Nat.{◌≤◌}
use Rattle.constant_rows.proofs.Numbering.{Filling}
use Rattle.constant_rows.proofs.fill.Given as goal

abbrev pub invariant-loop-i : goal.invariant-loop-i
invariant-loop-i l = Filling l.value l.from l.initial.column l.column l.i × ((l.i ≤ l.end) ⊎ (l.i ≡ l.from))

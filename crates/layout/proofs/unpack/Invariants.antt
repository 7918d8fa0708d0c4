use Prim.Native.Nat.{ℕ, ◌<◌, min}
use mathlib.Core.Path.{◌≡◌}
use lib.ListN.{length}
use Rattle.parsing.proofs.Columns.{Filled}
use Rattle.layout.proofs.unpack.Given as goal

abbrev pub invariant-loop-i : goal.invariant-loop-i
invariant-loop-i g l = (f : ℕ → g.row.T.Denot) → ((w : ℕ) (v : g.row.T.Denot) → w < 18446744073709551616 → goal.F-post g l.part w v → v ≡ f w) →
    Filled f l.words l.n l.initial.column (min l.n (min (length l.words) (length l.initial.column))) l.i l.column

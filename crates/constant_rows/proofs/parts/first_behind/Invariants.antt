use mathlib.Core.Path.{◌≡◌}
use lib.Dec.{ltb}
use lib.ListN.{length, get_or}
use Prim.Native.Nat.{◌-◌}
use Rattle.relations.specs.Select.{first_from}
use Rattle.constant_rows.proofs.parts.first_behind.Given as goal

abbrev pub invariant-loop-i : goal.invariant-loop-i
invariant-loop-i l = first_from (λ j. ltb l.node (get_or l.order j 0)) l.i (length l.order - l.i) ≡ first_from (λ j. ltb l.node (get_or l.order j 0)) l.from (length l.order - l.from)

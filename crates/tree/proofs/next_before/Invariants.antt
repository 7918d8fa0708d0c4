use mathlib.Core.Path.{◌≡◌}
use lib.Dec.{eqb}
use lib.ListN.{get_or}
use Rattle.relations.specs.Select.{first_from}
use Prim.Native.Nat.{◌-◌}
use Rattle.tree.proofs.next_before.Given as goal

abbrev pub invariant-loop-n : goal.invariant-loop-n
invariant-loop-n l = first_from (λ m. eqb (get_or l.kinds m 0) l.kind) l.n (l.end - l.n) ≡ first_from (λ m. eqb (get_or l.kinds m 0) l.kind) l.from (l.end - l.from)

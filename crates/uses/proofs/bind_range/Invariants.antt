use Rattle.type_names.proofs.Passes.{PassingRange}
use Rattle.uses.specs.Binding.{uses, RangeAsked}
use Prim.Native.Nat.{◌≤◌}
use lib.ListN.{length}
use Rattle.uses.proofs.bind_range.Given as goal

abbrev pub invariant-loop-i : goal.invariant-loop-i
invariant-loop-i l = PassingRange (RangeAsked l.kinds l.tokens l.sizes l.roles l.symbols l.starts l.keys l.nodes l.heads l.next l.items l.stamp l.schema) uses l.lo l.hi l.initial.so_far l.initial.bound l.initial.to l.i l.so_far l.bound l.to
    × (l.i ≤ length l.kinds) × (l.i ≤ length l.roles)

abbrev pub decreases-loop-i : goal.decreases-loop-i
decreases-loop-i l = l.i

use Rattle.type_names.proofs.Passes.{PassingRange}
use Rattle.type_names.specs.Binding.{RangeAsked}
use Rattle.type_names.specs.TypeName.{type_names}
use Prim.Native.Nat.{◌≤◌}
use lib.ListN.{length}
use Rattle.type_names.proofs.bind_range.Given as goal

abbrev pub invariant-loop-i : goal.invariant-loop-i
invariant-loop-i l = PassingRange (RangeAsked l.kinds l.tokens l.roles
    l.symbols l.starts l.keys l.nodes l.heads l.next l.schema) type_names l.lo l.hi l.initial.so_far l.initial.bound l.initial.to l.i l.so_far l.bound l.to × (l.i ≤ length l.kinds) × (l.i ≤ length l.roles)

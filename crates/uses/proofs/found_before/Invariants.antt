use Rattle.scopes.specs.NoneFrom.{NoneFrom}
use Rattle.uses.specs.Binding.{may_find_at}
use Rattle.uses.proofs.found_before.Given as goal

abbrev pub invariant-loop-i : goal.invariant-loop-i
invariant-loop-i l = NoneFrom (may_find_at l.kinds l.roles l.bound) l.lo l.end l.i

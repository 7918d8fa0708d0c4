use Prim.Native.Nat.{◌-◌}
use lib.ListN.{length}
use Rattle.scopes.specs.Standing.{table_of}
use Rattle.preparation.proofs.Checking.{Passing}
use Rattle.preparation.proofs.consistent.Given as goal

abbrev pub invariant-loop-i : goal.invariant-loop-i
invariant-loop-i l = Passing (table_of l.kinds l.tokens l.roles l.symbols) l.i

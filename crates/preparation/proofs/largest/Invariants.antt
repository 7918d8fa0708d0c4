use Prim.Native.Nat.{◌-◌}
use lib.ListN.{length}
use Rattle.preparation.specs.Fitting.{AtMost}
use Rattle.preparation.proofs.largest.Given as goal

abbrev pub invariant-loop-x : goal.invariant-loop-x
invariant-loop-x l = AtMost l.column l.x-index l.most

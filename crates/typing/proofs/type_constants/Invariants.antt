use Prim.Native.Nat.{◌-◌}
use lib.ListN.{length}
use Rattle.typing.proofs.Constants.{Here}
use Rattle.typing.proofs.type_constants.Given as goal

abbrev pub invariant-loop-n : goal.invariant-loop-n
invariant-loop-n l = Here l.terminals l.kinds l.tokens l.sizes l.bindings l.declared l.initial.scratch l.scratch l.n

abbrev pub decreases-loop-n : goal.decreases-loop-n
decreases-loop-n l = length l.kinds - l.n

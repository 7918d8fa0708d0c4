use Rattle.cycles.specs.State.{state}
use Rattle.cycles.specs.Answer.{Inner}
use Prim.Native.Nat.{ℕ, ◌<◌}
use Rattle.cycles.proofs.least.Given as goal

abbrev pub invariant-loop-v : goal.invariant-loop-v
invariant-loop-v l = (k : ℕ) → k < l.v → Inner l.first l.to (state l.s) k → ⊥

-- `stages::place_or_end` meets its contract: the end of a file fits into 32 bits. Assumes nothing.
use mathlib.Core.Path.{ap, ◌∙◌}
use native.Mathlib.Omega.{arith}
use lib.ListN.{get_or}
use Prim.Native.Nat.{ℕ}
use Rattle.stages.proofs.place_or_end.Goals as goal

pub returns : goal.returns
returns c = λ h. c.get_or.ensures ∙ ap (λ (e : ℕ). get_or c.args.starts.now c.args.token e) (c.number.ensures (omega arith))

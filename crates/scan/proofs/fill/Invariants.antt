use Prim.Native.Nat.{◌-◌}
use lib.ListN.{length}
use Rattle.express.specs.Tokens.Lexis.{lexed_to}
use Rattle.scan.proofs.Rows.{Progress}
use Rattle.scan.proofs.fill.Given as goal

abbrev pub invariant-loop-p : goal.invariant-loop-p
invariant-loop-p l = Progress (lexed_to l.limit l.src) l.src l.initial.kinds l.initial.starts l.initial.lengths l.kinds l.starts l.lengths l.n l.at

abbrev pub decreases-loop-p : goal.decreases-loop-p
decreases-loop-p l = length l.src - l.at

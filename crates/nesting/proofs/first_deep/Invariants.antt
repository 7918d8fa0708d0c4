use Prim.Native.Nat.{◌≤◌}
use mathlib.Core.Path.{◌≡◌}
use lib.ListN.{length}
use Rattle.express.specs.Syntax.Syntax.{nesting}
use Rattle.parsing.specs.Outcome.{steps as step_list, deep_or_end}
use Rattle.parsing.proofs.Limit.{deep_from}
use Rattle.nesting.proofs.first_deep.Given as goal

abbrev pub invariant-loop-i : goal.invariant-loop-i
invariant-loop-i l = (l.steps ≡ step_list) × (l.i ≤ length l.terminals) × (l.depth ≤ nesting) × (deep_from l.terminals l.i l.depth ≡ deep_or_end l.terminals)

use Prim.Native.Nat.{◌-◌}
use mathlib.Core.Path.{◌≡◌}
use lib.ListN.{length}
use Rattle.express.specs.Tokens.Terminal.{comma}
use Rattle.express.specs.Syntax.Grammar.{◌·◌, tok}
use Rattle.parsing.specs.Reading.{At, Ready}
use Rattle.clauses.specs.Declares.{id_of}
use Rattle.clauses.proofs.Laws.{Loops}
use Rattle.clauses.proofs.names.Given as goal

abbrev pub invariant-loop-at : goal.invariant-loop-at
invariant-loop-at l = (length l.rows ≡ length l.initial.rows) × Ready l.terminals l.at.token l.at.row × Loops (tok comma · id_of l.label) l.terminals l.initial.at.token l.initial.at.row (At l.at.token l.at.row) l.initial.rows l.rows

abbrev pub decreases-loop-at : goal.decreases-loop-at
decreases-loop-at l = length l.terminals - l.at.token

use Prim.Native.Nat.{◌-◌}
use mathlib.Core.Path.{◌≡◌}
use lib.ListN.{length}
use Rattle.parsing.specs.Reading.{At, Ready}
use Rattle.ebnf.specs.Grammar.{nt}
use Rattle.express.specs.Syntax.Grammar.{attributes as attributes'}
use Rattle.clauses.proofs.Laws.{Loops}
use Rattle.clauses.proofs.groups.Given as goal

abbrev pub invariant-loop-rows : goal.invariant-loop-rows
invariant-loop-rows l = (length l.rows ≡ length l.initial.rows) × Ready l.terminals l.at.token l.at.row × Loops (nt attributes') l.terminals l.initial.at.token l.initial.at.row (At l.at.token l.at.row) l.initial.rows l.rows

abbrev pub decreases-loop-rows : goal.decreases-loop-rows
decreases-loop-rows l = length l.terminals - l.at.token

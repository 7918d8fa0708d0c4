use Prim.Native.Nat.{◌-◌}
use mathlib.Core.Path.{◌≡◌}
use lib.ListN.{length}
use Rattle.parsing.specs.Reading.{At, Ready}
use Rattle.ebnf.specs.Grammar.{nt}
use Rattle.express.specs.Syntax.Grammar.{domain_rule}
use Rattle.clauses.proofs.Laws.{Loops}
use Rattle.clauses.proofs.rule_list.Given as goal

abbrev pub invariant-loop-rows : goal.invariant-loop-rows
invariant-loop-rows l = (length l.rows ≡ length l.initial.rows) × Ready l.terminals l.at.token l.at.row × Loops (nt domain_rule) l.terminals l.initial.at.token l.initial.at.row (At l.at.token l.at.row) l.initial.rows l.rows

abbrev pub decreases-loop-rows : goal.decreases-loop-rows
decreases-loop-rows l = length l.terminals - l.at.token

use Prim.Native.Nat.{◌+◌, ◌-◌, ◌*◌}
use mathlib.Core.Path.{◌≡◌}
use lib.ListN.{length}
use Rattle.ebnf.specs.Grammar.{none}
use Rattle.express.specs.Tokens.Terminal.{power}
use Rattle.express.specs.Syntax.Grammar.{sum as sum', term as term', factor as factor', operand as operand', additions, multiplications}
use Rattle.expressions.proofs.Operators.{Before, again}
use Rattle.expressions.proofs.+atom_compared_expression_factor_interval_operand_signed_sum_term.Given as goal

abbrev pub decreases-atom : goal.decreases-atom
decreases-atom l = 8 * (length l.terminals.now - l.from.token) + 0

abbrev pub decreases-compared : goal.decreases-compared
decreases-compared l = 8 * (length l.terminals.now - l.from.token) + 0

abbrev pub decreases-expression : goal.decreases-expression
decreases-expression l = 8 * (length l.terminals.now - l.from.token) + 5

abbrev pub decreases-factor : goal.decreases-factor
decreases-factor l = 8 * (length l.terminals.now - l.from.token) + 2

abbrev pub decreases-interval : goal.decreases-interval
decreases-interval l = 8 * (length l.terminals.now - l.from.token) + 0

abbrev pub decreases-operand : goal.decreases-operand
decreases-operand l = 8 * (length l.terminals.now - l.from.token) + 1

abbrev pub decreases-signed : goal.decreases-signed
decreases-signed l = 8 * (length l.terminals.now - l.from.token) + 0

abbrev pub decreases-sum : goal.decreases-sum
decreases-sum l = 8 * (length l.terminals.now - l.from.token) + 4

abbrev pub decreases-term : goal.decreases-term
decreases-term l = 8 * (length l.terminals.now - l.from.token) + 3

abbrev pub invariant-factor-loop-right : goal.invariant-factor-loop-right
invariant-factor-loop-right l = (length l.rows ≡ length l.initial.rows) × Before factor' operand' power none l.terminals l.from.token l.from.row l.initial.rows l.at.token l.at.row l.rows

abbrev pub decreases-factor-loop-right : goal.decreases-factor-loop-right
decreases-factor-loop-right l = length l.terminals - l.at.token

abbrev pub invariant-sum-loop-right : goal.invariant-sum-loop-right
invariant-sum-loop-right l = (length l.rows ≡ length l.initial.rows) × Before sum' term' additions (again additions term') l.terminals l.from.token l.from.row l.initial.rows l.at.token l.at.row l.rows

abbrev pub decreases-sum-loop-right : goal.decreases-sum-loop-right
decreases-sum-loop-right l = length l.terminals - l.at.token

abbrev pub invariant-term-loop-right : goal.invariant-term-loop-right
invariant-term-loop-right l = (length l.rows ≡ length l.initial.rows) × Before term' factor' multiplications (again multiplications factor') l.terminals l.from.token l.from.row l.initial.rows l.at.token l.at.row l.rows

abbrev pub decreases-term-loop-right : goal.decreases-term-loop-right
decreases-term-loop-right l = length l.terminals - l.at.token

-- `ancestors::join_arc` meets its contract. Assumes nothing.
use borrow.Author.Rules.{rules}
use mathlib.Core.Path.{◌∙◌}
use native.Mathlib.Omega.{arith}
use Rattle.ancestors.specs.Rows.{arc_joined}
use Rattle.ancestors.proofs.Steps.{rows_low}
use Rattle.ancestors.proofs.join_arc.Goals as goal

pub overflow_mul-rank : goal.overflow_mul-rank
overflow_mul-rank c = omega (arith, rows_low c.requires)

pub overflow_mul-rank-2 : goal.overflow_mul-rank-2
overflow_mul-rank-2 c = omega (arith, rows_low c.requires)

pub overflow_add-rank : goal.overflow_add-rank
overflow_add-rank c = omega (arith, rows_low c.requires)

pub overflow_mul-rank-3 : goal.overflow_mul-rank-3
overflow_mul-rank-3 c = omega (arith, rows_low c.requires)

pub overflow_mul-other : goal.overflow_mul-other
overflow_mul-other c = omega (arith, rows_low c.requires)

pub merge-requires : goal.merge-requires
merge-requires c = search (rules, rows_low c.requires)

pub returns : goal.returns
unfolding arc_joined
returns c = c.merge.ensures ∙ rw (c.set-2.ensures, c.set.ensures)

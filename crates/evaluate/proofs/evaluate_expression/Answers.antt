-- `evaluate::evaluate_expression` meets its contract: what is left to evaluate comes to the same at every turn. Assumes nothing.
use borrow.Author.Rules.{rules}
use Rattle.evaluate.proofs.Walking.{going_starts, going_on, going_ends}
use Rattle.evaluate.proofs.evaluate_expression.Goals as goal

pub loop-n-init : goal.loop-n-init
loop-n-init c = going_starts

pub loop-n-preserved : goal.loop-n-preserved
loop-n-preserved c = going_on c.loop-n.invariant c.loop-n-test.true c.evaluate_node.ensures (search
    rules) (search rules) (search rules)

pub shape_of-value_kinds : goal.shape_of-value_kinds
shape_of-value_kinds c = c.loop-n.invariant.kinds_kept

pub shape_of-value_numbers : goal.shape_of-value_numbers
shape_of-value_numbers c = c.loop-n.invariant.numbers_kept

pub shape_of-value_lengths : goal.shape_of-value_lengths
shape_of-value_lengths c = c.loop-n.invariant.lengths_kept

pub returns : goal.returns
returns c = going_ends c.loop-n.invariant c.loop-n-test.false

-- `typing::type_constants` meets its contract: what is left to type comes to the same at every constant. Assumes nothing.
use mathlib.Core.Path.{◌∙◌}
use native.Mathlib.Omega.{arith}
use Rattle.std.proofs.lemmas.Result.{err_from_is_err_and}
use Rattle.tree.proofs.Next.{next_beyond}
use Rattle.typing.proofs.Constants.{passing_starts, passing_ends, passing_next, passing_constant, passing_stops}
use Rattle.typing.proofs.type_constants.Goals as goal

pub loop-n-init : goal.loop-n-init
loop-n-init c = passing_next passing_starts (omega arith) c.next_of_kind-n.ensures

pub overflow_add-n : goal.overflow_add-n
overflow_add-n c = omega (arith, c.loop-n-test.true)

pub overflow_add-n-in-loop-n : goal.overflow_add-n-in-loop-n
overflow_add-n-in-loop-n c = omega (arith, c.loop-n-test.true)

pub loop-n-smaller : goal.loop-n-smaller
loop-n-smaller c = let h = next_beyond _ _ _ c.next_of_kind-n-in-loop-n.ensures in omega (arith, h, c.loop-n-test.true)

pub loop-n-preserved : goal.loop-n-preserved
loop-n-preserved c = passing_next (passing_constant c.loop-n.invariant.passing c.loop-n-test.true (c.loop-n.invariant.stands c.loop-n-test.true) c.index_at.ensures
    c.saturating_sub-first.ensures c.type_expression.ensures c.in_ok-type_expression.was) (omega (
      arith,
      c.loop-n-test.true,
    )) c.next_of_kind-n-in-loop-n.ensures

pub shape_of-scratch-in_err-type_expression : goal.shape_of-scratch-in_err-type_expression
shape_of-scratch-in_err-type_expression c = c.type_expression.ensures.kept ∙ c.loop-n.invariant.passing.kept

pub returns-in_err-type_expression : goal.returns-in_err-type_expression
returns-in_err-type_expression c = let p = err_from_is_err_and c.from_residual.result c.from_residual.ensures.1 in rw (p.1, p.2) (passing_stops c.loop-n.invariant.passing c.loop-n-test.true (c.loop-n.invariant.stands c.loop-n-test.true) c.index_at.ensures
    c.saturating_sub-first.ensures c.type_expression.ensures c.in_err-type_expression.was)

pub shape_of-scratch : goal.shape_of-scratch
shape_of-scratch c = c.loop-n.invariant.passing.kept

pub returns : goal.returns
returns c = passing_ends c.loop-n.invariant.passing c.loop-n-test.false

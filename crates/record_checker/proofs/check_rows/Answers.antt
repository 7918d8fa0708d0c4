-- `record_checker::check_rows` meets its contract: what the call says of the parts that it is lent. Assumes nothing.
use mathlib.Core.Path.{sym}
use native.Mathlib.Omega.{arith}
use lib.Seq.{length-take-le}
use Rattle.record_demands.proofs.Cutting.{rows_of_check}
use Rattle.record_checker.proofs.check_rows.Goals as goal

pub slice_bounds-check-end-2 : goal.slice_bounds-check-end-2
slice_bounds-check-end-2 c = sym (length-take-le _ _ (omega (arith, c.min-a.ensures)))

pub slice_bounds-check-end-4 : goal.slice_bounds-check-end-4
slice_bounds-check-end-4 c = sym (length-take-le _ _ (omega (arith, c.min-b.ensures)))

pub slice_bounds-check-end-6 : goal.slice_bounds-check-end-6
slice_bounds-check-end-6 c = sym (length-take-le _ _ (omega (arith, c.min-c.ensures)))

pub returns : goal.returns
returns c = rows_of_check c.args.rows c.min-a.result c.min-b.result c.min-c.result c.min-a.ensures c.min-b.ensures c.min-c.ensures c.check.auto.answer_kinds c.check.auto.answer_numbers c.check.auto.answer_lengths c.check.ensures

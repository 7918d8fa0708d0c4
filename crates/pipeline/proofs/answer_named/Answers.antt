-- `pipeline::answer_named` meets its contract: the orders are cut at the number of declarations. Assumes nothing.
use mathlib.Core.Path.{sym}
use native.Mathlib.Omega.{arith}
use lib.Seq.{length-take-le}
use Rattle.pipeline.proofs.Binding.{named_answered}
use Rattle.pipeline.proofs.answer_named.Goals as goal

pub slice_bounds-answer_file-end : goal.slice_bounds-answer_file-end
slice_bounds-answer_file-end c = sym (length-take-le c.min-v.result _ (omega (arith, c.min-v.ensures, c.min.ensures)))

pub slice_bounds-answer_file-end-2 : goal.slice_bounds-answer_file-end-2
slice_bounds-answer_file-end-2 c = sym (length-take-le c.min-v.result _ (omega (
  arith,
  c.min-v.ensures,
  c.min.ensures,
)))

pub returns : goal.returns
returns c = named_answered _ _ _ _ _ _ _ _ _ _ _ _ _ _ _ _ _ _ _ _ _ _ _ _ _ _ _ _ c.count_declarations.ensures c.min.ensures c.min-v.ensures c.answer_file.ensures

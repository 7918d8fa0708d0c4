-- `stages::of_parse` meets its contract: one arm for each answer of a parse. Assumes nothing.
use mathlib.Core.Path.{ap, ◌∙◌}
use Rattle.std.specs.Prelude.{Err}
use Rattle.stages.proofs.Laws.{of_accepted, of_unexpected, of_too_deep, of_short, of_scratch, of_long}
use Rattle.stages.proofs.of_parse.Goals as goal

pub returns-in-Ok : goal.returns-in-Ok
returns-in-Ok c = of_accepted c.in-Ok.is

pub returns-in-Unexpected : goal.returns-in-Unexpected
returns-in-Unexpected c = of_unexpected (c.in-Err.is ∙ ap Err c.in-Unexpected.is) c.place_or_end.ensures

pub returns-in-TooDeep : goal.returns-in-TooDeep
returns-in-TooDeep c = of_too_deep (c.in-Err.is ∙ ap Err c.in-TooDeep.is) c.place_or_end-in-TooDeep.ensures

pub returns-in-Short : goal.returns-in-Short
returns-in-Short c = of_short (c.in-Err.is ∙ ap Err c.in-Short.is) c.number.ensures

pub returns-in-Scratch : goal.returns-in-Scratch
returns-in-Scratch c = of_scratch (c.in-Err.is ∙ ap Err c.in-Scratch.is)

pub returns-in-Long : goal.returns-in-Long
returns-in-Long c = of_long (c.in-Err.is ∙ ap Err c.in-Long.is)

-- `resolutions::finish` meets its contract. Assumes nothing.
use mathlib.Core.Path.{sym, ap, ◌∙◌}
use Rattle.faults.specs.Meaning.{is_fine}
use Rattle.resolutions.proofs.Finishing.{finishes_faulty, finishes_bound}
use Rattle.resolutions.proofs.finish.Goals as goal

pub returns-then-fine : goal.returns-then-fine
returns-then-fine c = finishes_bound _ (sym c.is_fine-fine.ensures ∙ c.if-fine.true)

pub returns-in-None : goal.returns-in-None
returns-in-None c = finishes_bound _ (ap is_fine c.in-None.is)

pub returns-in-Some : goal.returns-in-Some
returns-in-Some c = finishes_faulty _ (sym c.is_fine-fine.ensures ∙ c.if-fine.false) c.in-Some.is c.widen.ensures

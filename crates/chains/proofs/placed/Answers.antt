-- `chains::placed` meets its contract: by cases of what was met. Assumes nothing.
use Rattle.chains.specs.Steps.{place_by}
use Rattle.chains.specs.declared.Met.{Met}
use Rattle.chains.proofs.Rounds.{placed_free}
use mathlib.Core.Path.{sym, ap}
use Rattle.chains.proofs.placed.Goals as goal

pub returns-in-At : goal.returns-in-At
returns-in-At c = sym (ap (λ (m : Met). place_by m c.args.b) c.in-At.is)

pub returns-in-Full : goal.returns-in-Full
returns-in-Full c = placed_free c.args.met c.args.b c.in-Full.is

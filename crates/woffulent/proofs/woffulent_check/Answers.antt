-- `woffulent::woffulent_check` meets its contract: what the call promises, of the report in its places. Assumes nothing.
use mathlib.Core.Path.{sym, subst}
use Rattle.demands.specs.Checks.{Checks}
use Rattle.woffulent.proofs.woffulent_check.Goals as goal

pub returns : goal.returns
returns c = subst (Checks _ _ _) (sym c.put_report.ensures) c.check-report.ensures

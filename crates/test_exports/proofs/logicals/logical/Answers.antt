use mathlib.Core.Path.{sym, ap}
use Rattle.test_exports.specs.Places.{logical_at}
use Rattle.test_exports.proofs.logicals.logical.Goals as goal

pub returns-in-0 : goal.returns-in-0
returns-in-0 c = sym (ap logical_at c.in-0.is)

pub returns-in-1 : goal.returns-in-1
returns-in-1 c = sym (ap logical_at c.in-1.is)

use mathlib.Core.Path.{◌∙◌, ap}
use Rattle.express.specs.Semantics.Logic.{rank, NOT}
use Rattle.test_exports.proofs.logicals.woffulent_not.Goals as goal

pub returns : goal.returns
returns c = c.from.ensures ∙ ap rank (c.not.ensures ∙ ap NOT c.logical.ensures)

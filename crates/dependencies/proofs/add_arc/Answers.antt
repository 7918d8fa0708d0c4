-- `dependencies::add_arc` meets its contract: nothing for the target 0, else one store before the arcs. Assumes nothing.
use mathlib.Core.Path.{refl}
use Rattle.dependencies.proofs.Storing.{adds_none, adds_one}
use Rattle.dependencies.proofs.add_arc.Goals as goal

pub returns-then-target-eq0 : goal.returns-then-target-eq0
returns-then-target-eq0 c = adds_none c.if-target-eq0.true

pub returns : goal.returns
returns c = adds_one c.if-target-eq0.false c.saturating_sub-at.ensures refl c.put.ensures

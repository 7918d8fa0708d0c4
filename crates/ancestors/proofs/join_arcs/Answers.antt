-- `ancestors::join_arcs` meets its contract. Assumes nothing.
use mathlib.Core.Path.{◌∙◌}
use Rattle.ancestors.proofs.Steps.{joining_start, joining_step, joining_end}
use Rattle.ancestors.proofs.join_arcs.Goals as goal

pub loop-e-init : goal.loop-e-init
loop-e-init c = joining_start

pub loop-e-preserved : goal.loop-e-preserved
loop-e-preserved c = joining_step c.loop-e.invariant c.loop-e-test.true c.join_arc.auto.rows
    (c.index.ensures ∙ c.get_or.ensures)
    (c.index-other.ensures ∙ c.get_or-in-loop-e.ensures) c.join_arc.ensures

pub shape_of-rows : goal.shape_of-rows
shape_of-rows c = c.loop-e.invariant.long

pub returns : goal.returns
returns c = joining_end c.loop-e.invariant c.loop-e-test.false

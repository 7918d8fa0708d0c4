-- `ancestors::arcs_closed` meets its contract. Assumes nothing.
use mathlib.Core.Bool.{not}
use mathlib.Core.Path.{◌∙◌, ap}
use Rattle.ancestors.proofs.Steps.{closing_start, closing_no, closing_step, closing_end}
use Rattle.ancestors.proofs.arcs_closed.Goals as goal

pub loop-e-init : goal.loop-e-init
loop-e-init c = closing_start

pub returns-then-not-arc_closed : goal.returns-then-not-arc_closed
returns-then-not-arc_closed c = let t = c.loop-e-test.true in
    let w = c.index.ensures ∙ c.get_or.ensures in
    closing_no c.loop-e.invariant t w (c.index-other.ensures ∙ c.get_or-in-loop-e.ensures) c.arc_closed.ensures (ap not c.if-not-arc_closed.true)

pub loop-e-preserved : goal.loop-e-preserved
loop-e-preserved c = let t = c.loop-e-test.true in
    let w = c.index.ensures ∙ c.get_or.ensures in
    closing_step c.loop-e.invariant t w (c.index-other.ensures ∙ c.get_or-in-loop-e.ensures) c.arc_closed.ensures (ap not c.if-not-arc_closed.false)

pub returns : goal.returns
returns c = closing_end c.loop-e.invariant c.loop-e-test.false

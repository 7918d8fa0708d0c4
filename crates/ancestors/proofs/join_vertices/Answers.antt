-- `ancestors::join_vertices` meets its contract. Assumes nothing.
use mathlib.Core.Path.{ap, ◌∙◌}
use lib.ListN.{length}
use Rattle.ancestors.proofs.Steps.{placing_start, placing_joined, placing_passed, placing_end}
use Rattle.ancestors.proofs.join_vertices.Goals.{then-rank-ne0, else-rank-ne0}
use Rattle.ancestors.proofs.join_vertices.Goals as goal

pub loop-vertex-init : goal.loop-vertex-init
loop-vertex-init c = placing_start

pub loop-vertex-preserved : goal.loop-vertex-preserved
loop-vertex-preserved c = let t = c.loop-vertex-test.true in
    let v = c.index-v.ensures in
    let r = (c.index-rank.ensures ∙ c.get_or.ensures) in
    elim c.if-rank-ne0.branch [
      | then-rank-ne0 w ↦ placing_joined c.loop-vertex.invariant t (ap length w.rows-is ∙ w.join_arcs.auto.rows) v r w.if-rank-ne0.true
          (w.index-from.ensures ∙ w.get_or-then-rank-ne0.ensures) (w.index-end.ensures ∙ w.get_or-then-rank-ne0-2.ensures) (w.rows-is ∙ w.join_arcs.ensures)
      | else-rank-ne0 w ↦ placing_passed c.loop-vertex.invariant t v r w.if-rank-ne0.false w.rows-is
    ]

pub shape_of-rows : goal.shape_of-rows
shape_of-rows c = c.loop-vertex.invariant.long

pub returns : goal.returns
returns c = placing_end c.loop-vertex.invariant c.loop-vertex-test.false

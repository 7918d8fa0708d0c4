-- `ancestors::arc_closed` meets its contract. Assumes nothing.
use mathlib.Core.Path.{sym, ◌∙◌}
use mathlib.Core.Bool.{false≢true}
use Rattle.ancestors.proofs.Steps.{arc_no, arc_without, arc_as}
use Rattle.ancestors.proofs.arc_closed.Goals.{then-has, else-has}
use Rattle.ancestors.proofs.arc_closed.Goals as goal

pub returns-then-has-2 : goal.returns-then-has-2
returns-then-has-2 c = let a = c.args in
    elim c.if-has.branch [
      | then-has w ↦ arc_as a.width a.rank a.other a.rows.now (sym c.has.ensures ∙ w.if-has.true)
          (sym w.has-then-has.ensures ∙ sym w.value-is ∙ c.if-has-2.true) c.contains.ensures
      | else-has w ↦ absurd (false≢true (sym w.if-has.false ∙ sym w.value-is ∙ c.if-has-2.true))
    ]

pub returns-else-has-2 : goal.returns-else-has-2
returns-else-has-2 c = let a = c.args in
    elim c.if-has.branch [
      | then-has w ↦ c.if-has-2.false ∙ arc_without a.width a.rank a.other a.rows.now (sym c.has.ensures ∙ w.if-has.true)
          (sym w.has-then-has.ensures ∙ sym w.value-is ∙ c.if-has-2.false)
      | else-has w ↦ w.value-is ∙ w.if-has.false ∙ arc_no a.width a.rank a.other a.rows.now (sym c.has.ensures ∙ w.if-has.false)
    ]

-- `string_places::place_strings` meets its contract: the rows before i are placed. Assumes nothing.
use mathlib.Core.Path.{◌∙◌}
use native.Mathlib.Omega.{arith}
use Rattle.string_places.proofs.Placing.{placing_starts, placing_string, placing_other, placing_ends}
use Rattle.string_places.proofs.place_strings.Goals as goal
use Rattle.string_places.proofs.place_strings.Goals.{then-get_or-eq-STRING, else-get_or-eq-STRING}

pub loop-i-init : goal.loop-i-init
loop-i-init c = placing_starts

pub loop-i-preserved : goal.loop-i-preserved
loop-i-preserved c =
    elim c.if-get_or-eq-STRING.branch [
      | then-get_or-eq-STRING w ↦
          placing_string c.loop-i.invariant (omega arith) c.get_or.ensures w.if-get_or-eq-STRING.true (w.numbers-is ∙ w.put.ensures) w.start-is
          (w.byte_index-start.ensures.0 ∙ w.get_or-then-get_or-eq-STRING.ensures) w.byte_index-start.ensures.1
      | else-get_or-eq-STRING w ↦ placing_other c.loop-i.invariant c.get_or.ensures w.if-get_or-eq-STRING.false w.numbers-is w.start-is
    ]

pub returns : goal.returns
returns c = placing_ends c.loop-i.invariant c.loop-i.auto.i-end c.loop-i-test.false c.min-i-end.ensures

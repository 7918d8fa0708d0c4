use Rattle.string_places.proofs.Placing.{Placing}
use Rattle.string_places.proofs.place_strings.Given as goal

abbrev pub invariant-loop-i : goal.invariant-loop-i
invariant-loop-i l = Placing l.kinds l.lengths l.initial.numbers l.numbers l.start l.i

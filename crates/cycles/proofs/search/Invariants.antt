use Rattle.cycles.specs.State.{state}
use Rattle.cycles.proofs.Running.{Running, left}
use Rattle.cycles.proofs.search.Given as goal

abbrev pub invariant-loop-then : goal.invariant-loop-then
invariant-loop-then l = Running l.first l.to l.initial.s l.s l.c

abbrev pub decreases-loop-then : goal.decreases-loop-then
decreases-loop-then l = left l.first (state l.s) l.c

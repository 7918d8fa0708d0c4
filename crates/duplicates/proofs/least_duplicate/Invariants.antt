use Rattle.duplicates.proofs.Repeats.{LeastFrom}
use Rattle.duplicates.proofs.least_duplicate.Given as goal

abbrev pub invariant-loop-e : goal.invariant-loop-e
invariant-loop-e l = LeastFrom l.tokens l.starts l.keys l.nodes l.next l.e l.least

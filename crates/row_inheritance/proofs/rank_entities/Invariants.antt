use Rattle.row_inheritance.proofs.Ranking.{Ranking}
use Rattle.row_inheritance.proofs.rank_entities.Given as goal

abbrev pub invariant-loop-v : goal.invariant-loop-v
invariant-loop-v l = Ranking l.kinds l.entry_nodes l.initial.ranks l.ranks l.count l.v

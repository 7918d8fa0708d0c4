use lib.Dec.{eqb}
use lib.ListN.{get_or}
use Rattle.tree.proofs.Blocks.{Looking}
use Rattle.tree.proofs.in_block.Given as goal

abbrev pub invariant-loop-n : goal.invariant-loop-n
invariant-loop-n l = Looking (λ n. eqb (get_or l.kinds n 0) l.kind) l.from l.block l.n l.found

use lib.ListN.{length}
use Rattle.constant_rows.proofs.Grouping.{Rising}
use Rattle.constant_rows.proofs.parts.is_ascending.Given as goal

abbrev pub invariant-loop-declaration : goal.invariant-loop-declaration
invariant-loop-declaration l = Rising (length l.kinds) l.order l.declaration-index l.last

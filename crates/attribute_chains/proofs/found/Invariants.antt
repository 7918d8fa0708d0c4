use Rattle.attribute_chains.proofs.Finding.{Walking}
use Rattle.attribute_chains.proofs.found.Given as goal

abbrev pub invariant-loop-link : goal.invariant-loop-link
invariant-loop-link l = Walking l.rows l.pairs l.base l.head l.code l.link

abbrev pub decreases-loop-link : goal.decreases-loop-link
decreases-loop-link l = l.link

use Rattle.chains.proofs.Chains.{Walk}
use mathlib.Core.List.{map}
use Rattle.express.specs.Tokens.Bytes.{lower}
use Rattle.chains.proofs.Names.along.Given as goal

abbrev pub invariant-loop-link : goal.invariant-loop-link
invariant-loop-link l = Walk l.self.bytes.now l.self.starts.now l.self.lengths.now l.self.next.now (map lower l.word) l.limit l.first l.below l.link l.passed

abbrev pub decreases-loop-link : goal.decreases-loop-link
decreases-loop-link l = l.below

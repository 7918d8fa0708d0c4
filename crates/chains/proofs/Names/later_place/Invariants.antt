use Rattle.chains.proofs.Rounds.{Going}
use mathlib.Core.List.{map}
use Rattle.express.specs.Tokens.Bytes.{lower}
use Rattle.chains.proofs.Names.later_place.Given as goal

abbrev pub invariant-loop-left : goal.invariant-loop-left
invariant-loop-left l = Going l.self.bytes.now l.self.starts.now l.self.lengths.now l.self.heads.now l.self.next.now (map lower l.word) l.limit l.h l._left

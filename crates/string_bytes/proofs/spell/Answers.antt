-- `string_bytes::spell` meets its contract: what is left to spell comes to the same at every turn. Assumes nothing.
use borrow.Author.Rules.{rules}
use Rattle.string_bytes.proofs.Walking.{going_starts, going_on}
use Rattle.string_bytes.proofs.spell.Goals as goal

pub loop-n-init : goal.loop-n-init
loop-n-init c = going_starts

pub loop-n-preserved : goal.loop-n-preserved
loop-n-preserved c = going_on c.loop-n.invariant c.loop-n-test.true c.node_bytes-size.ensures c.min-at.ensures (search rules)

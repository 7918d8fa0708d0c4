-- `string_bytes::copy_bytes` meets its contract: byte by byte, as many as there are. Assumes nothing.
use Rattle.string_bytes.proofs.Writing.{copied_more}
use Rattle.string_bytes.proofs.copy_bytes.Goals as goal

pub loop-i-preserved : goal.loop-i-preserved
loop-i-preserved c = copied_more _ _ _ c.min-first.ensures c.min-end.ensures c.loop-i.invariant c.loop-i-test.true c.put_behind.ensures

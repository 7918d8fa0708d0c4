-- The table has a byte at its own place exactly where it is such a symbol: computed for all 256 (`ByteSets`).
use Rattle.scan.proofs.ByteSets.{lone_at}
use native.Mathlib.Omega.{arith}
use Rattle.scan.proofs.Bytes.is_lone.Goals as goal

pub returns : goal.returns
returns c = lone_at _ _ _ c.args.self.now.lones_are c.byte_index.ensures.0 (omega (arith, c.ranges.b))

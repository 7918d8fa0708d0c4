-- `node_answers::binary` meets its contract: as many bits as there are bytes after the first. Assumes nothing.
use Rattle.node_answers.proofs.Literals.{binary_long, binary_short}
use mathlib.Core.Path.{refl}
use native.Mathlib.Omega.{arith}
use Rattle.node_answers.proofs.binary.Goals as goal

pub returns-then-bits-gt-BITS : goal.returns-then-bits-gt-BITS
returns-then-bits-gt-BITS c = binary_long c.args.src.now c.args.start c.args.length c.saturating_sub.ensures c.min-bytes.ensures c.saturating_sub-bits.ensures c.if-bits-gt-BITS.true

pub overflow_cast-result : goal.overflow_cast-result
overflow_cast-result c = omega (arith, c.if-bits-gt-BITS.false)

pub returns : goal.returns
returns c = binary_short c.args.src.now c.args.start
    c.args.length c.saturating_sub.ensures c.min-bytes.ensures c.saturating_sub-bits.ensures c.binary.ensures refl refl

-- `bit_rows::set` meets its contract. Assumes nothing.
use Rattle.bit_rows.specs.Bits.{with_bit}
use mathlib.Core.Path.{◌∙◌}
use Rattle.bit_rows.proofs.Bits.{shifted}
use Rattle.bit_rows.proofs.set.Goals as goal

pub returns : goal.returns
unfolding with_bit
returns c = c.put.ensures ∙ rw (
  shifted c.args.i,
  c.get_or.ensures,
)

-- `bit_rows::has` meets its contract. Assumes nothing.
use Prim.Native.Nat.{ℕ, ◌/◌, ◌%◌, ◌^◌}
use mathlib.Core.Path.{ap}
use lib.Dec.{eqb}
use Rattle.bit_rows.specs.Bits.{bit}
use Rattle.bit_rows.proofs.has.Goals as goal

pub returns : goal.returns
unfolding bit
returns c = ap (λ (w : ℕ). eqb (w / 2 ^ (c.args.i % 32) % 2) 1) c.get_or.ensures

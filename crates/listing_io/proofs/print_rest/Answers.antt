-- `listing_io::print_rest` meets its contract: each turn writes the next lines, a line or more. Assumes nothing.
use mathlib.Core.Path.{refl, ◌∙◌}
use Prim.Native.Nat.{ℕ, ◌-◌, ◌<◌}
use native.Mathlib.Omega.{arith}
use Rattle.listing_io.proofs.Writing.{writing_starts, writing_goes_on, writing_ends}
use Rattle.listing_io.proofs.print_rest.Goals as goal

fewer : (n i j : ℕ) → i < n → i < j → n - j < n - i
fewer n i j h k = omega arith

pub loop-line-smaller : goal.loop-line-smaller
loop-line-smaller g c = fewer _ _ _ c.loop-line-test.true
    c.if-next-line.false

pub loop-line-init : goal.loop-line-init
loop-line-init g c = (refl, writing_starts _)

pub loop-line-preserved : goal.loop-line-preserved
loop-line-preserved g c = (
  c.next_part-next.auto.out ∙ c.loop-line.invariant.0,
  writing_goes_on c.loop-line.invariant.1 c.next_part-next.ensures
      c.in_ok-write_all.ensures.bytes,
)

pub returns : goal.returns
returns g c = writing_ends c.loop-line.invariant.1 c.loop-line-test.false

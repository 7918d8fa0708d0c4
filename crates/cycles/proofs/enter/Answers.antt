-- `cycles::enter` meets its contract: six stores. Assumes nothing.
use native.Mathlib.Omega.{arith}
use Rattle.cycles.proofs.enter.Goals as goal

pub put-requires-3 : goal.put-requires-3
put-requires-3 c = (
  omega (
    arith,
    c.requires.room,
    c.put.auto.s,
    c.put-2.auto.s,
  ),
  omega (
    arith,
    c.index.ensures,
    c.type_inv.first
        c.args.w,
  ),
)

pub returns : goal.returns
returns c = rw (
  c.put-6.ensures,
  c.put-5.ensures,
  c.put-4.ensures,
  c.put-3.ensures,
  c.index.ensures,
  c.put-2.ensures,
  c.put.ensures,
)

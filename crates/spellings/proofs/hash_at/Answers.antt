-- `spellings::hash_at` meets its contract: a short word is the first of eight bytes. Assumes nothing.
use Rattle.spellings.proofs.Blocks.{short_blocks, short_hashes}
use native.Mathlib.Omega.{arith}
use Rattle.spellings.proofs.hash_at.Goals as goal

pub join-requires-2 : goal.join-requires-2
join-requires-2 c = (
  c.join.ensures.small,
  (short_blocks c.args.s.now
      c.args.at c.args.n (λ j. omega (
        arith,
        c.type_inv.s j,
      )) c.if-n-gt-EIGHT.false
      c.eight.ensures c.first_bytes-x.ensures).1.small,
)

pub returns : goal.returns
returns c = short_hashes c.args.s.now
    c.args.at
    c.args.n (λ j. omega (
      arith,
      c.type_inv.s j,
    )) c.if-n-gt-EIGHT.false
    c.eight.ensures c.first_bytes-x.ensures c.join.ensures c.join-2.ensures

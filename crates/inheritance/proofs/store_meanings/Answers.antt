-- `inheritance::store_meanings` meets its contract. Assumes nothing.
use Prim.Native.Nat.{◌-◌}
use lib.ListN.{get_or}
use Rattle.inheritance.proofs.Asking.{asks_at}
use Rattle.inheritance.proofs.Storing.{storing_starts, storing_ends, storing_skip, storing_more}
use Rattle.inheritance.proofs.store_meanings.Goals as goal

pub loop-i-init : goal.loop-i-init
loop-i-init g c = storing_starts

pub loop-i-preserved-then-asks : goal.loop-i-preserved-then-asks
loop-i-preserved-then-asks g c = let s = c.symbol.ensures in
    storing_more c.loop-i.invariant c.loop-i-test.true (asks_at {a = get_or c.args.file.entries.kinds.now (c.loop-i.i - 1) 0} {b = get_or c.args.file.roles.now (c.loop-i.i - 1) 0}
    c.get_or.ensures c.get_or-in-loop-i.ensures c.asks.ensures c.if-asks.true)
    (rw s at c.meaning.ensures) c.put.ensures

pub loop-i-preserved : goal.loop-i-preserved
loop-i-preserved g c = storing_skip c.loop-i.invariant c.loop-i-test.true
    (asks_at {a = get_or c.args.file.entries.kinds.now (c.loop-i.i - 1) 0} {b = get_or c.args.file.roles.now (c.loop-i.i - 1) 0}
    c.get_or.ensures c.get_or-in-loop-i.ensures c.asks.ensures c.if-asks.false)

pub shape_of-bound : goal.shape_of-bound
shape_of-bound g c = c.loop-i.invariant.long

pub returns : goal.returns
returns g c = storing_ends c.loop-i.invariant c.loop-i-test.false

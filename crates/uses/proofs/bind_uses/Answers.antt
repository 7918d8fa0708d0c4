-- `uses::bind_uses` meets its contract: one declaration after another is passed, with the items of its schema in the table. Assumes nothing.
use mathlib.Core.Path.{◌≡◌, refl, ap, ◌∙◌}
use Prim.Native.Nat.{◌+◌, ◌-◌}
use lib.ListN.{length, length-set}
use Rattle.uses.proofs.Uses.{uses_start, uses_go_on, uses_end}
use native.Mathlib.Omega.{arith}
use Rattle.uses.proofs.bind_uses.Goals as goal

pub loop-v-init : goal.loop-v-init
loop-v-init c = uses_start c.saturating_sub-v.ensures refl refl c.begin-tabled.ensures

pub loop-v-preserved : goal.loop-v-preserved
loop-v-preserved c = let e : c.loop-v.v - 1 + 1 ≡ c.loop-v.v = omega (arith, c.loop-v-test.true) in uses_go_on c.loop-v.invariant c.number.ensures (rw e at c.put.ensures) c.loop-v-test.true (rw e at c.number-stamp.ensures) c.declaration-d.ensures c.turn_to-tabled.ensures c.bind_range-so_far.ensures
    c.bind_range-so_far.auto.bound c.bind_range-so_far.auto.to c.turn_to-tabled.auto.table

pub shape_of-bound : goal.shape_of-bound
shape_of-bound c = c.loop-v.invariant.passing.bound_long

pub shape_of-first : goal.shape_of-first
shape_of-first c = ap length c.put-2.ensures ∙ length-set c.loop-v.first 0 c.number-2.result ∙ c.loop-v.invariant.passing.first_long

pub shape_of-to : goal.shape_of-to
shape_of-to c = c.loop-v.invariant.passing.to_long

pub shape_of-items : goal.shape_of-items
shape_of-items c = c.loop-v.invariant.items_long ∙ c.begin-tabled.auto.table

pub returns : goal.returns
returns c = uses_end c.loop-v.invariant c.number-2.ensures c.begin-tabled.auto.table c.put-2.ensures c.loop-v-test.false

-- `type_names::bind_type_names` meets its contract: one declaration after another is passed. Assumes nothing.
use mathlib.Core.Path.{◌≡◌, refl, ap, ◌∙◌}
use Prim.Native.Nat.{◌+◌, ◌-◌}
use native.Mathlib.Omega.{arith}
use lib.ListN.{length, length-set}
use Rattle.columns.proofs.Laws.{length_cleared}
use Rattle.type_names.proofs.TypeNames.{types_start, types_go_on, types_end}
use Rattle.type_names.proofs.bind_type_names.Goals as goal

pub loop-v-init : goal.loop-v-init
loop-v-init c = types_start c.args.bound.now c.saturating_sub-v.ensures refl refl c.clear.ensures

pub loop-v-preserved : goal.loop-v-preserved
loop-v-preserved c = let e : c.loop-v.v - 1 + 1 ≡ c.loop-v.v = omega (arith, c.loop-v-test.true) in types_go_on c.loop-v.invariant
    c.number.ensures
    (rw e at c.put.ensures)
    c.loop-v-test.true
    c.declaration-d.ensures c.bind_range-so_far.ensures
    c.bind_range-so_far.auto.bound
    c.bind_range-so_far.auto.to

pub shape_of-bound : goal.shape_of-bound
shape_of-bound c = c.loop-v.invariant.bound_long ∙ ap length
    c.clear.ensures ∙ length_cleared 0 0
    c.args.bound.now

pub shape_of-first : goal.shape_of-first
shape_of-first c = ap length c.put-2.ensures ∙ length-set c.loop-v.first 0
    c.number-2.result ∙ c.loop-v.invariant.first_long

pub shape_of-to : goal.shape_of-to
shape_of-to c = c.loop-v.invariant.to_long

pub returns : goal.returns
returns c = types_end c.loop-v.invariant c.number-2.ensures
    c.put-2.ensures c.loop-v-test.false (ap length
    c.clear.ensures ∙ length_cleared 0 0
    c.args.bound.now) refl refl

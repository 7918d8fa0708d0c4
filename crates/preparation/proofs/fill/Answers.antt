-- The entries of the nodes from i on stand in the columns; those passed over have none. Assumes nothing.
use Rattle.columns.specs.Column.{tabulated}
use Rattle.scopes.specs.Standing.{class_table}
use Rattle.preparation.proofs.Filling.{entering_starts, entering_small, entering_fits, entering_goes_on, entering_skip, entering_passes, filling_ends, filling_long}
use native.Mathlib.Omega.{arith}
use Prim.Native.Nat.{ℕ, ◌-◌}
use lib.ListN.{get_or}
use mathlib.Core.Path.{refl, ap}
use Rattle.preparation.proofs.fill.Goals as goal

pub loop-i-init : goal.loop-i-init
loop-i-init c = entering_passes (entering_starts c.requires.consistent c.requires.counted c.ended-here.ensures) c.declaring_before-i.ensures

pub declaring_before-i-requires-in-loop-i : goal.declaring_before-i-requires-in-loop-i
declaring_before-i-requires-in-loop-i c = omega (arith, c.loop-i.invariant.within)

pub bounds-kinds-n : goal.bounds-kinds-n
bounds-kinds-n c = let E = c.loop-i.invariant in omega (arith, E.within, c.loop-i-test.true)

pub bounds-roles-n : goal.bounds-roles-n
bounds-roles-n c = let E = c.loop-i.invariant in omega (arith, E.within, c.loop-i-test.true, E.consistent.roles)

pub overflow_cast-roles : goal.overflow_cast-roles
overflow_cast-roles c = omega (arith, c.type_inv.roles (c.loop-i.i - 1))

pub class-class-requires : goal.class-class-requires
unfolding class_table tabulated
class-class-requires c = refl

pub bounds-tokens-n : goal.bounds-tokens-n
bounds-tokens-n c = let E = c.loop-i.invariant in omega (arith, E.within, c.loop-i-test.true, E.consistent.tokens)

pub overflow_add-declarations : goal.overflow_add-declarations
overflow_add-declarations c = let E = c.loop-i.invariant in
    omega (arith, entering_small E c.loop-i-test.true c.class-class.ensures c.passed-here.ensures refl refl)

pub offset_bounds-symbols-k : goal.offset_bounds-symbols-k
offset_bounds-symbols-k c = omega (arith, c.index-k.ensures, c.type_inv.tokens (c.loop-i.i - 1))

pub bounds-symbols-k : goal.bounds-symbols-k
bounds-symbols-k c = let E = c.loop-i.invariant in
    omega (arith, c.index-k.ensures, E.consistent.inside (c.loop-i.i - 1) (omega (arith, E.within, c.loop-i-test.true)))

pub enter_node-requires : goal.enter_node-requires
enter_node-requires c = let E = c.loop-i.invariant in
    entering_fits E c.loop-i-test.true c.class-class.ensures c.passed-here.ensures c.sort_in.ensures
    (ap (λ (x : ℕ). get_or c.args.symbols.now x 0) c.index-k.ensures)

pub loop-i-smaller-then-class-ne-NOTHING : goal.loop-i-smaller-then-class-ne-NOTHING
loop-i-smaller-then-class-ne-NOTHING c = omega (arith, c.loop-i-test.true, c.declaring_before-i-in-loop-i.ensures.low)

pub loop-i-preserved-then-class-ne-NOTHING : goal.loop-i-preserved-then-class-ne-NOTHING
loop-i-preserved-then-class-ne-NOTHING c = entering_passes
    (entering_goes_on c.loop-i.invariant c.loop-i-test.true c.class-class.ensures c.passed-here.ensures c.sort_in.ensures
    (ap (λ (x : ℕ). get_or c.args.symbols.now x 0) c.index-k.ensures) refl c.enter_node.ensures.entered c.enter_node.ensures.entered_2)
    c.declaring_before-i-in-loop-i.ensures

pub loop-i-smaller : goal.loop-i-smaller
loop-i-smaller c = omega (arith, c.loop-i-test.true, c.declaring_before-i-in-loop-i.ensures.low)

pub loop-i-preserved : goal.loop-i-preserved
loop-i-preserved c = entering_passes (entering_skip c.loop-i.invariant c.loop-i-test.true c.class-class.ensures c.if-class-ne-NOTHING.false) c.declaring_before-i-in-loop-i.ensures

pub shape_of-keys : goal.shape_of-keys
shape_of-keys c = filling_long c.loop-i.invariant.keys_filling

pub shape_of-nodes : goal.shape_of-nodes
shape_of-nodes c = filling_long c.loop-i.invariant.nodes_filling

pub returns : goal.returns
returns c = record {
  filled = filling_ends c.loop-i.invariant.keys_filling c.loop-i-test.false;
  filled_2 = filling_ends c.loop-i.invariant.nodes_filling c.loop-i-test.false;
}

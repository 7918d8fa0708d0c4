-- `attribute_chains::enter_entries` meets its contract. Assumes nothing.
use Rattle.attribute_chains.proofs.Entering.{entering_starts, entering_ends, entering_skip, entering_more}
use mathlib.Core.Path.{sym, ap, ◌∙◌}
use Prim.Native.Nat.{ℕ, ◌%◌}
use lib.ListN.{get_or}
use Rattle.scopes.specs.Entries.{radix}
use Rattle.attributes.specs.Attributes.{attribute_kind}
use native.Mathlib.Omega.{arith}
use Rattle.attribute_chains.proofs.enter_entries.Goals as goal

pub loop-e-init : goal.loop-e-init
loop-e-init c = entering_starts

pub overflow_add-count : goal.overflow_add-count
overflow_add-count c = omega (arith, c.loop-e.invariant.small)

pub loop-e-preserved-then-is_attribute : goal.loop-e-preserved-then-is_attribute
loop-e-preserved-then-is_attribute c = let node = c.index-node.ensures ∙ c.get_or.ensures in
    let symbol = c.symbol_of-symbol.ensures ∙ ap (λ (k : ℕ). k % radix) c.get_or-then-is_attribute.ensures in
    entering_more c.loop-e.invariant c.loop-e-test.true node
    (ap attribute_kind (sym c.get_or-in-loop-e.ensures) ∙ sym c.is_attribute.ensures ∙ c.if-is_attribute.true) symbol c.enter.ensures.0
    c.enter.ensures.1 c.enter.auto.heads c.enter.auto.pairs

pub loop-e-preserved : goal.loop-e-preserved
loop-e-preserved c = let kinds = c.args.entries.kinds.now in
    let node = c.index-node.ensures ∙ c.get_or.ensures in
    entering_skip c.loop-e.invariant c.loop-e-test.true
    (ap (λ (n : ℕ). attribute_kind (get_or kinds n 0)) (sym node) ∙ ap attribute_kind (sym c.get_or-in-loop-e.ensures) ∙ sym c.is_attribute.ensures ∙ c.if-is_attribute.false)

pub shape_of-heads : goal.shape_of-heads
shape_of-heads c = c.loop-e.invariant.heads_long

pub shape_of-pairs : goal.shape_of-pairs
shape_of-pairs c = c.loop-e.invariant.pairs_long

pub returns : goal.returns
returns c = entering_ends c.loop-e.invariant c.loop-e-test.false

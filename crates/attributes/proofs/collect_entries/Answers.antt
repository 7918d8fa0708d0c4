-- `attributes::collect_entries` meets its contract. Assumes nothing.
use mathlib.Core.Path.{sym, ap, ◌∙◌}
use Prim.Native.Nat.{ℕ, ◌%◌}
use lib.ListN.{get_or}
use Rattle.scopes.specs.Entries.{radix}
use Rattle.attributes.specs.Attributes.{attribute_kind}
use Rattle.attributes.proofs.Collecting.{adding_starts, adding_ends, adding_skip, adding_more}
use Rattle.attributes.proofs.collect_entries.Goals as goal

pub loop-e-init : goal.loop-e-init
loop-e-init c = adding_starts

pub loop-e-preserved-then-is_attribute : goal.loop-e-preserved-then-is_attribute
loop-e-preserved-then-is_attribute c = adding_more c.loop-e.invariant c.loop-e-test.true (c.index-node.ensures ∙ c.get_or.ensures)
    (ap attribute_kind (sym c.get_or-in-loop-e.ensures) ∙ sym c.is_attribute.ensures ∙ c.if-is_attribute.true)
    (c.symbol_of-symbol.ensures ∙ ap (λ (k : ℕ). k % radix) c.get_or-then-is_attribute.ensures) c.add.ensures
    c.add.auto.table

pub loop-e-preserved : goal.loop-e-preserved
loop-e-preserved c = adding_skip c.loop-e.invariant c.loop-e-test.true
    (ap (λ (n : ℕ). attribute_kind (get_or c.args.entries.kinds.now n 0)) (sym (c.index-node.ensures ∙ c.get_or.ensures)) ∙ ap attribute_kind (sym c.get_or-in-loop-e.ensures)
    ∙ sym c.is_attribute.ensures ∙ c.if-is_attribute.false)

pub shape_of-table : goal.shape_of-table
shape_of-table c = c.loop-e.invariant.long

pub returns : goal.returns
returns c = adding_ends c.loop-e.invariant c.loop-e-test.false

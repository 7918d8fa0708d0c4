-- `constant_rows::parts::is_grouped` meets its contract: schema after schema. Assumes nothing.
use Rattle.constant_rows.proofs.Grouping.{grouping_starts, grouping_ends, grouping_behind, grouping_out, grouping_here, grouping_next}
use Rattle.tree.proofs.Next.{next_beyond}
use native.Mathlib.Omega.{arith}
use Rattle.constant_rows.proofs.parts.is_grouped.Goals as goal

pub loop-i-init : goal.loop-i-init
loop-i-init c = grouping_starts _ _ c.next_of_kind-schema.ensures

pub returns-then-d-lo : goal.returns-then-d-lo
returns-then-d-lo c = grouping_behind _ c.loop-i.invariant c.loop-i-test.true c.index-d.ensures c.if-d-lo.true

pub loop-i-smaller-then-d-schema : goal.loop-i-smaller-then-d-schema
loop-i-smaller-then-d-schema c = omega (arith, c.loop-i-test.true)

pub loop-i-preserved-then-d-schema : goal.loop-i-preserved-then-d-schema
loop-i-preserved-then-d-schema c = grouping_here _ c.loop-i.invariant c.loop-i-test.true c.index-d.ensures c.if-d-lo.false c.if-d-schema.true

pub returns-then-schema-kinds : goal.returns-then-schema-kinds
returns-then-schema-kinds c = grouping_out _ c.loop-i.invariant c.loop-i-test.true c.index-d.ensures c.if-d-lo.false c.if-d-schema.false c.if-schema-kinds.true

pub overflow_add-lo : goal.overflow_add-lo
overflow_add-lo c = omega (arith, c.if-schema-kinds.false, c.well_formed)

pub loop-i-smaller : goal.loop-i-smaller
loop-i-smaller c = let h = next_beyond _ _ _ c.loop-i.invariant.next in omega (arith, h, c.if-schema-kinds.false)

pub loop-i-preserved : goal.loop-i-preserved
loop-i-preserved c = grouping_next _ c.loop-i.invariant c.loop-i-test.true c.index-d.ensures c.if-d-lo.false c.if-d-schema.false c.if-schema-kinds.false c.next_of_kind-schema-else-d-schema.ensures

pub returns : goal.returns
returns c = grouping_ends _ c.loop-i.invariant c.loop-i-test.false

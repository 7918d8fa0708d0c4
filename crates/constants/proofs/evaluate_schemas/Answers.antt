-- `constants::evaluate_schemas` meets its contract: the schemas that have ended are filled. Assumes nothing.
use lib.ListN.{length}
use Prim.Native.Nat.{◌+◌, ◌≤◌}
use Rattle.tree.proofs.Next.{next_beyond}
use Rattle.constant_rows.proofs.Grouping.{grouped_parts}
use Rattle.constants.proofs.Schemas.{filling_starts, filling_next, filling_schema, filling_ends, schema_among}
use Rattle.constants.proofs.Parted.{to_from, to_upto}
use borrow.Author.Rules.{rules}
use native.Mathlib.Omega.{arith}
use Rattle.constants.proofs.evaluate_schemas.Goals as goal

low : (c : goal.After-min-c) → c.loop-n.from ≤ c.part_end-to.result
low c = to_from c.loop-n.invariant.filling.begun c.loop-n.n c.has_parts-are_parted.result (omega (
  arith,
  c.loop-n.invariant.filling.ahead,
)) c.next_part-next.ensures c.args.file.now.kinds.now (grouped_parts c.args.file.now.kinds.now c.args.order.now (c.next_of_kind-n.result + 1) c.has_parts-are_parted.ensures) c.part_end-to.ensures

high : (c : goal.After-min-c) → c.part_end-to.result ≤ length c.args.order.now
high c = to_upto c.loop-n.invariant.filling.begun c.loop-n.n c.has_parts-are_parted.result (omega (
  arith,
  c.loop-n.invariant.filling.ahead,
)) c.next_part-next.ensures c.args.file.now.kinds.now (grouped_parts c.args.file.now.kinds.now c.args.order.now (c.next_of_kind-n.result + 1) c.has_parts-are_parted.ensures) c.part_end-to.ensures

pub overflow_add-n : goal.overflow_add-n
overflow_add-n c = omega (
  arith,
  schema_among c.args.file.now.kinds.now c.next_of_kind-n.ensures,
  c.well_formed,
)

pub loop-n-init : goal.loop-n-init
loop-n-init c = filling_next filling_starts c.next_of_kind-n.ensures

pub offset_bounds-order-from : goal.offset_bounds-order-from
offset_bounds-order-from c = omega (
  arith,
  low c,
  high c,
  c.well_formed,
)

pub slice_bounds-evaluate_schema-count : goal.slice_bounds-evaluate_schema-count
slice_bounds-evaluate_schema-count c = low c

pub slice_bounds-evaluate_schema-start : goal.slice_bounds-evaluate_schema-start
slice_bounds-evaluate_schema-start c = let f = low c in let u = high c in omega (arith, f, u)

pub slice_bounds-evaluate_schema-end : goal.slice_bounds-evaluate_schema-end
slice_bounds-evaluate_schema-end c = high c

pub offset_bounds-answer_numbers-b : goal.offset_bounds-answer_numbers-b
offset_bounds-answer_numbers-b c = omega (
  arith,
  c.min-b.ensures,
  c.loop-n.invariant.filling.numbers_kept,
  c.well_formed,
)

pub overflow_add-lo : goal.overflow_add-lo
overflow_add-lo c = omega (
  arith,
  c.loop-n-test.true,
  c.well_formed,
)

pub loop-n-smaller : goal.loop-n-smaller
loop-n-smaller c = let h = next_beyond _ _ _ c.next_of_kind-n-in-loop-n.ensures in omega (
  arith,
  h,
  c.loop-n-test.true,
)

pub loop-n-preserved : goal.loop-n-preserved
loop-n-preserved c = filling_next (filling_schema c.loop-n.invariant.filling c.loop-n-test.true (c.loop-n.invariant.stands c.loop-n-test.true) c.min-a.ensures c.min-b.ensures c.min-c.ensures c.index_at-at.ensures
    c.has_parts-are_parted.result c.next_part-next.ensures (grouped_parts c.args.file.now.kinds.now c.args.order.now (c.next_of_kind-n.result + 1) c.has_parts-are_parted.ensures) c.part_end-to.ensures _ _ _ c.evaluate_schema.ensures (search rules)
    (search rules) (search rules) (search rules) (search rules) (search rules) (search rules) (search rules) (search rules) (search rules)) c.next_of_kind-n-in-loop-n.ensures

pub shape_of-answer_kinds : goal.shape_of-answer_kinds
shape_of-answer_kinds c = c.loop-n.invariant.filling.kinds_kept

pub shape_of-answer_numbers : goal.shape_of-answer_numbers
shape_of-answer_numbers c = c.loop-n.invariant.filling.numbers_kept

pub shape_of-answer_lengths : goal.shape_of-answer_lengths
shape_of-answer_lengths c = c.loop-n.invariant.filling.lengths_kept

pub shape_of-value_kinds : goal.shape_of-value_kinds
shape_of-value_kinds c = c.loop-n.invariant.filling.value_kinds_kept

pub shape_of-value_numbers : goal.shape_of-value_numbers
shape_of-value_numbers c = c.loop-n.invariant.filling.value_numbers_kept

pub shape_of-value_lengths : goal.shape_of-value_lengths
shape_of-value_lengths c = c.loop-n.invariant.filling.value_lengths_kept

pub shape_of-room : goal.shape_of-room
shape_of-room c = c.loop-n.invariant.filling.room_kept

pub returns : goal.returns
returns c = filling_ends c.loop-n.invariant.filling c.loop-n-test.false

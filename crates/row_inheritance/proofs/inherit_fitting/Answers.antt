-- `row_inheritance::inherit_fitting` meets its contract. Assumes nothing.
use mathlib.Core.Path.{refl, ◌∙◌}
use native.Mathlib.Omega.{arith}
use Prim.Native.Nat.{◌-◌}
use lib.ListN.{length}
use Rattle.row_inheritance.proofs.Ranking.{before_few}
use Rattle.row_inheritance.proofs.Inheriting.{by_rows, by_none}
use Rattle.row_inheritance.proofs.inherit_fitting.Goals as goal

pub overflow_sub-n : goal.overflow_sub-n
overflow_sub-n c = omega (arith, c.requires.some)

pub order_declarations-requires : goal.order_declarations-requires
order_declarations-requires c = omega (
  arith,
  c.requires.order_room,
  c.requires.rank_room,
)

pub rank_declarations-entities-requires : goal.rank_declarations-entities-requires
rank_declarations-entities-requires c = (
  omega (
    arith,
    c.requires.few,
  ),
  omega (
    arith,
    c.requires.rank_room,
    c.order_declarations.auto.table,
  ),
)

pub relate_entities-requires : goal.relate_entities-requires
relate_entities-requires c = (
  omega (
    arith,
    c.rank_declarations-entities.ensures.total,
    before_few c.args.file.entries.kinds.now c.args.file.entries.nodes.now (length c.args.file.first.now - 1),
  ),
  omega (
    arith,
    c.requires.few,
  ),
  c.requires.order_room,
  omega (
    arith,
    c.requires.rank_room,
    c.order_declarations.auto.table,
    c.rank_declarations-entities.auto.table,
  ),
)

pub shape_of-table-in_default : goal.shape_of-table-in_default
shape_of-table-in_default c = c.rank_declarations-entities.auto.table ∙ c.order_declarations.auto.table

pub returns-in_default : goal.returns-in_default
returns-in_default c = by_none

pub clear_heads-requires : goal.clear_heads-requires
clear_heads-requires c = omega (
  arith,
  c.requires.rank_room,
  c.order_declarations.auto.table,
  c.rank_declarations-entities.auto.table,
)

pub chain_attributes-chained-requires : goal.chain_attributes-chained-requires
chain_attributes-chained-requires c = omega (
  arith,
  c.requires.rank_room,
  c.order_declarations.auto.table,
  c.rank_declarations-entities.auto.table,
  c.clear_heads.auto.table,
)

pub shape_of-table-then-pairs-chained : goal.shape_of-table-then-pairs-chained
shape_of-table-then-pairs-chained c = c.chain_attributes-chained.auto.table ∙ c.clear_heads.auto.table ∙ c.rank_declarations-entities.auto.table ∙ c.order_declarations.auto.table

pub returns-then-pairs-chained : goal.returns-then-pairs-chained
returns-then-pairs-chained c = by_none

pub shape_of-table : goal.shape_of-table
shape_of-table c = c.chain_attributes-chained.auto.table ∙ c.clear_heads.auto.table ∙ c.rank_declarations-entities.auto.table ∙ c.order_declarations.auto.table

pub returns : goal.returns
returns c = by_rows c.requires refl (c.rank_declarations-entities.auto.table ∙ c.order_declarations.auto.table) c.rank_declarations-entities.ensures
    c.in-Some.ensures c.clear_heads.ensures c.clear_heads.auto.table
    c.chain_attributes-chained.ensures (omega (
      arith,
      c.if-pairs-chained.false,
      c.chain_attributes-chained.auto.pairs,
    )) c.store_declarations.ensures

-- `row_inheritance::rank_entities` meets its contract. Assumes nothing.
use mathlib.Core.Path.{◌∙◌}
use Prim.Native.Nat.{◌<◌}
use native.Mathlib.Omega.{arith}
use lib.ListN.{length}
use Rattle.row_inheritance.proofs.Ranking.{ranking_starts, ranking_few, ranking_ends, ranking_more, ranking_none}
use Rattle.row_inheritance.proofs.rank_entities.Goals.{then-get_or-eq-ENTITY, else-get_or-eq-ENTITY}
use Rattle.row_inheritance.proofs.rank_entities.Goals as goal

pub loop-v-init : goal.loop-v-init
loop-v-init c = ranking_starts

pub overflow_add-count : goal.overflow_add-count
overflow_add-count c = omega (arith, ranking_few c.loop-v.invariant, c.loop-v.invariant.upto)

pub loop-v-preserved : goal.loop-v-preserved
loop-v-preserved c = let s = c.loop-v.invariant in
    let t : c.loop-v.v < length c.loop-v.ranks = omega (arith, s.long, c.loop-v-test.true) in
    elim c.if-get_or-eq-ENTITY.branch [
      | then-get_or-eq-ENTITY w ↦ ranking_more s t c.get_or.ensures c.index-node.ensures c.get_or-in-loop-v.ensures w.if-get_or-eq-ENTITY.true
          w.number.ensures w.count-is (w.ranks-is ∙ w.put.ensures)
      | else-get_or-eq-ENTITY w ↦ ranking_none s t c.get_or.ensures c.index-node.ensures c.get_or-in-loop-v.ensures w.if-get_or-eq-ENTITY.false
          w.count-is (w.ranks-is ∙ w.put-else-get_or-eq-ENTITY.ensures)
    ]

pub shape_of-ranks : goal.shape_of-ranks
shape_of-ranks c = c.loop-v.invariant.long

pub returns : goal.returns
returns c = ranking_ends c.loop-v.invariant (omega (arith, c.loop-v.invariant.long, c.loop-v-test.false))

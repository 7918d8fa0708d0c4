-- A value of a few by its place among them, counted from 0; a number past the last is the last.
use Rattle.std.specs.Prelude.{cond, eqb}
use Prim.Native.Nat.{ℕ, zero, suc, Ordering}
use Rattle.express.specs.Semantics.Answer.{Logical, FALSE, UNKNOWN, TRUE}
use Rattle.express.specs.Semantics.Relation.{Relation, less_than, greater_than, at_most, at_least, unequal, equal, instance_unequal, instance_equal}

-- the logical of a rank
abbrev pub logical_at : ℕ → Logical
logical_at n = cond (eqb n 0) FALSE (cond (eqb n 1) UNKNOWN TRUE)

abbrev pub order_place : Ordering → ℕ
order_place Ordering.lt = 0
order_place Ordering.eq = 1
order_place Ordering.gt = 2

abbrev pub relation_at : ℕ → Relation
relation_at n =
    cond (eqb n 0) less_than
    (cond (eqb n 1) greater_than
    (cond (eqb n 2) at_most
    (cond (eqb n 3) at_least
    (cond (eqb n 4) unequal
    (cond (eqb n 5) equal
    (cond (eqb n 6) instance_unequal instance_equal))))))

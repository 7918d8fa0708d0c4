-- Relations, from the order of their two operands (K23): once for all kinds.
use Prim.Native.Nat.{Ordering}
use Rattle.express.specs.Semantics.Answer.{Logical, FALSE, TRUE}

-- G15: `<`, `>`, `<=`, `>=`, `<>`, `=`, `:<>:`, `:=:`
pub data Relation : Type 0 where
  less_than greater_than at_most at_least unequal equal instance_unequal instance_equal : Relation

-- one logical for each order: the first operand less than, the same as, or greater than the second
abbrev pub by : Ordering → Logical → Logical → Logical → Logical
by Ordering.lt l s g = l
by Ordering.eq l s g = s
by Ordering.gt l s g = g

-- K23
abbrev pub related : Relation → Ordering → Logical
related less_than o = by o TRUE FALSE FALSE
related greater_than o = by o FALSE FALSE TRUE
related at_most o = by o TRUE TRUE FALSE
related at_least o = by o FALSE TRUE TRUE
related unequal o = by o TRUE FALSE TRUE
related equal o = by o FALSE TRUE FALSE
related instance_unequal o = by o TRUE FALSE TRUE
related instance_equal o = by o FALSE TRUE FALSE

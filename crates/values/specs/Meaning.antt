-- What the types of the code stand for: the number and the value of each of their cases.
use Prim.Native.Nat.{ℕ, Ordering}
use Rattle.std.specs.Prelude.{◌≡◌, Bool, true, false, Result, Ok, Err}
use Rattle.std.specs.declared.cmp.Ordering as order
use Rattle.std.specs.declared.cmp.Ordering.TheVariants.{Less, Equal, Greater}
use Rattle.express.specs.Semantics.Answer.{FALSE, UNKNOWN, TRUE}
use Rattle.express.specs.Semantics.Answer as answer
use Rattle.express.specs.Semantics.Relation.{less_than, greater_than, at_most, at_least, unequal, equal, instance_unequal, instance_equal}
use Rattle.express.specs.Semantics.Relation as relation
use Rattle.values.specs.declared.End.{End}
use Rattle.values.specs.declared.End.TheVariants.{OutOfRange, ZeroDivisor, NegativePower, UnknownBoolean}
use Rattle.values.specs.declared.NoEnd.{NoEnd}
use Rattle.values.specs.declared.logical.Logical.{Logical}
use Rattle.values.specs.declared.logical.Logical.TheVariants.{False, Unknown, True}
use Rattle.values.specs.declared.order.Relation.{Relation}
use Rattle.values.specs.declared.order.Relation.TheVariants as a_relation

-- the number of an end, which is the kind of its answer row
abbrev pub end_number : End → ℕ
end_number OutOfRange = 16
end_number ZeroDivisor = 17
end_number NegativePower = 18
end_number UnknownBoolean = 19

-- the end of a number, refused where it is that of none
abbrev pub EndRead : ℕ → Result End NoEnd → Type 0
EndRead n (Ok e) = n ≡ end_number e
EndRead n (Err _) = (e : End) → n ≡ end_number e → ⊥

-- its number in an answer row is its `rank`
abbrev pub logical_of : Logical → answer.Logical
logical_of False = FALSE
logical_of Unknown = UNKNOWN
logical_of True = TRUE

-- whether it is TRUE or FALSE
abbrev pub logical_test : Bool → Logical
logical_test true = True
logical_test false = False

-- the first operand less than the second, the same, or greater
abbrev pub ordering_of : order.Ordering → Ordering
ordering_of Less = Ordering.lt
ordering_of Equal = Ordering.eq
ordering_of Greater = Ordering.gt

abbrev pub relation_of : Relation → relation.Relation
relation_of a_relation.LessThan = less_than
relation_of a_relation.GreaterThan = greater_than
relation_of a_relation.AtMost = at_most
relation_of a_relation.AtLeast = at_least
relation_of a_relation.Unequal = unequal
relation_of a_relation.Equal = equal
relation_of a_relation.InstanceUnequal = instance_unequal
relation_of a_relation.InstanceEqual = instance_equal

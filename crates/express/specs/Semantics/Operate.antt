-- What operators take (K7), and what they make of the answers of their operands (K14 to K25).
use Rattle.std.specs.Prelude.{◌≡◌, Bool, true, false, List, ℤ}
use Rattle.std.proofs.Math.Option.{Option, none, some}
use Prim.Native.Nat.{ℕ, compare, Ordering}
use Rattle.express.specs.Semantics.Answer.{Logical, UNKNOWN, Answer, indeterminate, integer, logical, binary, item, string, end}
use Rattle.express.specs.Semantics.Integer.{sum, difference, product, negation, DIV, MOD, compareℤ}
use Rattle.express.specs.Semantics.Integer as int
use Rattle.express.specs.Semantics.Logic.{AND, OR, XOR, NOT, compare_logical}
use Rattle.express.specs.Semantics.Bits.{join, compare_bits}
use Rattle.express.specs.Semantics.Strings.{join_strings, compare_bytes}
use Rattle.express.specs.Semantics.Relation.{Relation, related}
use Rattle.express.specs.Syntax.Tree.{Table, owner}
use Rattle.express.specs.Semantics.Shape.{Arithmetic, minus, times, divide, modulo, power, Connective, and, or, xor, Operator, plus, arithmetic, relation, connective, Sign, positive, negative, not}

-- ---- kinds

-- K4: integers, logicals, binaries, strings, the items of an enumeration, by the node of its type; the kind of `?`; and `untyped` for what has none
pub data Kind : Type 0 where
  integers logicals binaries strings : Kind
  items : ℕ → Kind
  undetermined untyped : Kind

-- the answers that do as operands of a kind (K30)
pub data Of (t : Table) : Kind → Answer → Type 0 where
  of-? : {k : Kind} → Of t k indeterminate
  of_end : {k : Kind} {e : ℕ} → Of t k (end e)
  of_integer : {z : ℤ} → Of t integers (integer z)
  of_logical : {l : Logical} → Of t logicals (logical l)
  of_binary : {s : List Bool} → Of t binaries (binary s)
  of_string : {s : List ℕ} → Of t strings (string s)
  of_item : {m y : ℕ} → owner t m ≡ y → Of t (items y) (item m)

-- K7: what arithmetic takes
abbrev pub integral : Kind → Bool
integral integers = true
integral logicals = false
integral binaries = false
integral strings = false
integral (items y) = false
integral undetermined = true
integral untyped = false

-- K7: what AND, OR, XOR and NOT take
abbrev pub truthful : Kind → Bool
truthful integers = false
truthful logicals = true
truthful binaries = false
truthful strings = false
truthful (items y) = false
truthful undetermined = true
truthful untyped = false

-- `+` of two operands adds and joins
abbrev pub summable : Kind → Bool
summable integers = true
summable logicals = false
summable binaries = true
summable strings = true
summable (items y) = false
summable undetermined = true
summable untyped = false

-- K7: what a relation takes
abbrev pub comparable : Kind → Bool
comparable integers = true
comparable logicals = true
comparable binaries = true
comparable strings = true
comparable (items y) = true
comparable undetermined = true
comparable untyped = false

-- K7: the kinds that an operator takes
abbrev pub takes : Operator → Kind → Bool
takes plus k = summable k
takes (arithmetic o) k = integral k
takes (relation o) k = comparable k
takes (connective o) k = truthful k

-- K7: the kinds that a sign or NOT takes
abbrev pub takes_one : Sign → Kind → Bool
takes_one positive k = integral k
takes_one negative k = integral k
takes_one not k = truthful k

-- ---- answers taken apart

abbrev pub integer_in : Answer → Option ℤ
integer_in indeterminate = none
integer_in (integer z) = some z
integer_in (logical l) = none
integer_in (binary s) = none
integer_in (item m) = none
integer_in (string s) = none
integer_in (end e) = none

abbrev pub logical_in : Answer → Option Logical
logical_in indeterminate = none
logical_in (integer z) = none
logical_in (logical l) = some l
logical_in (binary s) = none
logical_in (item m) = none
logical_in (string s) = none
logical_in (end e) = none

abbrev pub binary_in : Answer → Option (List Bool)
binary_in indeterminate = none
binary_in (integer z) = none
binary_in (logical l) = none
binary_in (binary s) = some s
binary_in (item m) = none
binary_in (string s) = none
binary_in (end e) = none

abbrev pub item_in : Answer → Option ℕ
item_in indeterminate = none
item_in (integer z) = none
item_in (logical l) = none
item_in (binary s) = none
item_in (item m) = some m
item_in (string s) = none
item_in (end e) = none

abbrev pub string_in : Answer → Option (List ℕ)
string_in indeterminate = none
string_in (integer z) = none
string_in (logical l) = none
string_in (binary s) = none
string_in (item m) = none
string_in (string s) = some s
string_in (end e) = none

abbrev pub end_in : Answer → Option ℕ
end_in indeterminate = none
end_in (integer z) = none
end_in (logical l) = none
end_in (binary s) = none
end_in (item m) = none
end_in (string s) = none
end_in (end e) = some e

module _ {A B : Type 0} where
  -- what f makes of a value that is there, else b
  abbrev pub given : Option A → (A → B) → B → B
  given none f b = b
  given (some x) f b = f x

  -- what f makes of two values that are both there, else b
  abbrev pub both : Option A → Option A → (A → A → B) → B → B
  both none y f b = b
  both (some x) none f b = b
  both (some x) (some y) f b = f x y

-- ---- the operations

-- K17 to K20
abbrev pub computed : Arithmetic → ℤ → ℤ → Answer
computed minus x y = difference x y
computed times x y = product x y
computed divide x y = DIV x y
computed modulo x y = MOD x y
computed power x y = int.power x y

-- K24
abbrev pub combined_logicals : Connective → Logical → Logical → Logical
combined_logicals and l m = AND l m
combined_logicals or l m = OR l m
combined_logicals xor l m = XOR l m

-- the order of two values of one kind (K22); that of items is the order of their nodes
abbrev pub compared : Answer → Answer → Option Ordering
compared x y =
    both (integer_in x) (integer_in y) (λ a b. some (compareℤ a b))
    (both (logical_in x) (logical_in y) (λ a b. some (compare_logical a b))
    (both (binary_in x) (binary_in y) (λ a b. some (compare_bits a b))
    (both (item_in x) (item_in y) (λ a b. some (compare a b))
    (both (string_in x) (string_in y) (λ a b. some (compare_bytes a b)) none))))

-- to a logical operator `?` is UNKNOWN (K15)
abbrev pub counted : Answer → Logical
counted x = given (logical_in x) (λ l. l) UNKNOWN

-- K15, K16: what is computed where no operand is an end
abbrev pub operated : Operator → Answer → Answer → Answer
operated plus x y =
    both (integer_in x) (integer_in y) sum
    (both (binary_in x) (binary_in y) join (both (string_in x) (string_in y) join_strings indeterminate))
operated (arithmetic o) x y = both (integer_in x) (integer_in y) (computed o) indeterminate
operated (relation o) x y = logical (given (compared x y) (related o) UNKNOWN)
operated (connective o) x y = logical (combined_logicals o (counted x) (counted y))

-- THE COMBINATION OF TWO ANSWERS (K14): the first end, from left to right; else what is computed
abbrev pub combined : Operator → Answer → Answer → Answer
combined o x y = given (end_in x) end (given (end_in y) end (operated o x y))

abbrev pub applied : Sign → Answer → Answer
applied positive x = x
applied negative x = given (end_in x) end (given (integer_in x) negation indeterminate)
applied not x = given (end_in x) end (logical (NOT (counted x)))

-- K25
abbrev pub between : Relation → Relation → Answer → Answer → Answer → Answer
between o p low x high = combined (connective and) (combined (relation o) low x) (combined (relation p) x high)

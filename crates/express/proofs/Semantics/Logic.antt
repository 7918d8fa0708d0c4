-- The operators of the three-valued logic as tables, and by the numbers of the values.
use mathlib.Core.Path.{◌≡◌, refl}
use mathlib.Core.List.{List, [], ◌∷◌}
use Prim.Native.Nat.{min, max, ◌-◌}
use Rattle.express.specs.Semantics.Answer.{Logical, FALSE, UNKNOWN, TRUE}
use Rattle.express.specs.Semantics.Logic.{rank, AND, OR, NOT, XOR}

-- a row for each first operand and a column for each second, in the order FALSE, UNKNOWN, TRUE
abbrev pub row : (Logical → Logical) → List Logical
row f = f FALSE ∷ f UNKNOWN ∷ f TRUE ∷ []

abbrev pub table : (Logical → Logical → Logical) → List (List Logical)
table f = row (f FALSE) ∷ row (f UNKNOWN) ∷ row (f TRUE) ∷ []

pub and_table : table AND ≡ (FALSE ∷ FALSE ∷ FALSE ∷ []) ∷ (FALSE ∷ UNKNOWN ∷ UNKNOWN ∷ []) ∷ (FALSE ∷ UNKNOWN ∷ TRUE ∷ []) ∷ []
unfolding AND
and_table = refl

pub or_table : table OR ≡ (FALSE ∷ UNKNOWN ∷ TRUE ∷ []) ∷ (UNKNOWN ∷ UNKNOWN ∷ TRUE ∷ []) ∷ (TRUE ∷ TRUE ∷ TRUE ∷ []) ∷ []
unfolding OR
or_table = refl

pub xor_table : table XOR ≡ (FALSE ∷ UNKNOWN ∷ TRUE ∷ []) ∷ (UNKNOWN ∷ UNKNOWN ∷ UNKNOWN ∷ []) ∷ (TRUE ∷ UNKNOWN ∷ FALSE ∷ []) ∷ []
unfolding XOR
xor_table = refl

pub and_smaller : (a b : Logical) → rank (AND a b) ≡ min (rank a) (rank b)
unfolding AND
and_smaller FALSE FALSE = refl
and_smaller FALSE UNKNOWN = refl
and_smaller FALSE TRUE = refl
and_smaller UNKNOWN FALSE = refl
and_smaller UNKNOWN UNKNOWN = refl
and_smaller UNKNOWN TRUE = refl
and_smaller TRUE FALSE = refl
and_smaller TRUE UNKNOWN = refl
and_smaller TRUE TRUE = refl

pub or_larger : (a b : Logical) → rank (OR a b) ≡ max (rank a) (rank b)
unfolding OR
or_larger FALSE FALSE = refl
or_larger FALSE UNKNOWN = refl
or_larger FALSE TRUE = refl
or_larger UNKNOWN FALSE = refl
or_larger UNKNOWN UNKNOWN = refl
or_larger UNKNOWN TRUE = refl
or_larger TRUE FALSE = refl
or_larger TRUE UNKNOWN = refl
or_larger TRUE TRUE = refl

pub not_mirrored : (a : Logical) → rank (NOT a) ≡ 2 - rank a
not_mirrored FALSE = refl
not_mirrored UNKNOWN = refl
not_mirrored TRUE = refl

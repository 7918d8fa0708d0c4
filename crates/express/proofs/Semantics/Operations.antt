-- What operators make of good operands is good: of the kind that typing gives, within its bounds, and an end only if it is one of the ends.
use mathlib.Core.Path.{◌≡◌, refl, sym, ap, subst, ◌∙◌}
use mathlib.Core.Bool.{Bool, true, false, cond, false≢true}
use mathlib.Core.Logic.{⊎_elim}
use mathlib.Core.List.Memᴰ
use mathlib.Core.List.{List, ◌++◌, Memᴰ}
use Prim.Native.Nat.{ℕ, ◌+◌, ◌^◌, ◌≤◌, ◌<◌}
use native.Mathlib.Omega.{arith}
use borrow.Author.Tests.{ltb-true, leb-true, ne_eqb}
use lib.Dec.{eqb, leb, ltb}
use lib.ListN.{length, length-append}
use lib.IntN.{ℤ, pos, negsuc, nat_abs}
use lib.Signed.{mag}
use Rattle.express.specs.Semantics.Answer.{Logical, FALSE, UNKNOWN, TRUE, Answer, indeterminate, integer, logical, binary, item, string, end, outside, zero_divisor, negative_power, unknown_boolean, ends}
use Rattle.express.specs.Syntax.NodeKind.{enumeration_item}
use Rattle.express.specs.Syntax.Tree.{Table, owner}
use Rattle.express.specs.Syntax.Tree as tree
use Rattle.express.specs.Semantics.Integer.{exact, DIV, MOD, quotient, remainder}
use Rattle.express.specs.Semantics.Integer as int
use Rattle.express.specs.Semantics.Bits.{join}
use Rattle.express.specs.Semantics.Strings.{join_strings}
use Rattle.express.specs.Tokens.Lexis.{most_bytes}
use Rattle.express.specs.Semantics.Relation.{Relation}
use Rattle.express.specs.Semantics.Declared.{Declared, INTEGER, BOOLEAN, LOGICAL, BINARY, STRING, enumeration, other}
use Rattle.express.specs.Semantics.Shape.{Arithmetic, minus, times, divide, modulo, power, and, Operator, plus, arithmetic, relation, connective, Sign, positive, negative, not}
use Rattle.express.specs.Semantics.Operate.{Kind, integers, logicals, binaries, strings, items, undetermined, untyped, Of, of-?, of_end, of_integer, of_logical, of_binary, of_string}
use Rattle.express.specs.Semantics.Operate.{of_item, integral, truthful, summable, comparable, takes, takes_one, end_in, given, computed, operated, combined, applied, between}
use Rattle.express.specs.Semantics.Rule.{Member, an_integer, is_false, is_true, a_logical, a_binary, a_string, an_item, Holds, no_value, an_end, a_member}
use Rattle.express.specs.Semantics.Kind.{same, common, kind_of_type, result, result_of_one}
use Rattle.express.proofs.Semantics.KindNumbers.{same_kinds}
use Rattle.express.specs.Semantics.Evaluate.{boolean_answer, held}

-- an end's number
abbrev pub Ends : ℕ → Type 0
Ends e = Memᴰ e ends

-- An answer of a kind, within its bounds
pub data Good (t : Table) : Kind → Answer → Type 0 where
  good-? : {k : Kind} → Good t k indeterminate
  good_end : {k : Kind} {e : ℕ} → Ends e → Good t k (end e)
  good_integer : {z : ℤ} → mag z < 2 ^ 63 → Good t integers (integer z)
  good_logical : {l : Logical} → Good t logicals (logical l)
  good_binary : {s : List Bool} → 1 ≤ length s → length s ≤ 63 → Good t binaries (binary s)
  good_string : {s : List ℕ} → length s ≤ most_bytes → Good t strings (string s)
  good_item : {m y : ℕ} → tree.kind t m ≡ enumeration_item → owner t m ≡ y → Good t (items y) (item m)

outside_end : Ends outside
outside_end = Memᴰ.head refl

zero_divisor_end : Ends zero_divisor
zero_divisor_end = Memᴰ.tail (Memᴰ.head refl)

negative_power_end : Ends negative_power
negative_power_end = Memᴰ.tail (Memᴰ.tail (Memᴰ.head refl))

pub unknown_boolean_end : Ends unknown_boolean
unknown_boolean_end = Memᴰ.tail (Memᴰ.tail (Memᴰ.tail (Memᴰ.head refl)))

-- the numbers of ends, for code
pub ends_range : {e : ℕ} → Ends e → (16 ≤ e) × (e ≤ 19)
ends_range m =
    ⊎_elim (λ q. (omega arith, omega arith))
    (λ m₁. ⊎_elim (λ q. (omega arith, omega arith))
    (λ m₂. ⊎_elim (λ q. (omega arith, omega arith))
    (λ m₃. let q = Memᴰ.eq_of_singleton m₃ in (omega arith, omega arith)) (Memᴰ.cases_cons m₂)) (Memᴰ.cases_cons m₁)) (Memᴰ.cases_cons m)

-- ---- kinds

-- what an operator takes, and what fits a type, has a kind
integral_comparable : (k : Kind) → integral k ≡ true → comparable k ≡ true
integral_comparable integers e = refl
integral_comparable logicals e = refl
integral_comparable binaries e = refl
integral_comparable strings e = refl
integral_comparable (items y) e = refl
integral_comparable undetermined e = refl
integral_comparable untyped e = e

truthful_comparable : (k : Kind) → truthful k ≡ true → comparable k ≡ true
truthful_comparable integers e = refl
truthful_comparable logicals e = refl
truthful_comparable binaries e = refl
truthful_comparable strings e = refl
truthful_comparable (items y) e = refl
truthful_comparable undetermined e = refl
truthful_comparable untyped e = e

summable_comparable : (k : Kind) → summable k ≡ true → comparable k ≡ true
summable_comparable integers e = refl
summable_comparable logicals e = refl
summable_comparable binaries e = refl
summable_comparable strings e = refl
summable_comparable (items y) e = refl
summable_comparable undetermined e = refl
summable_comparable untyped e = e

pub takes_comparable : (o : Operator) (k : Kind) → takes o k ≡ true → comparable k ≡ true
takes_comparable plus k e = summable_comparable k e
takes_comparable (arithmetic o) k e = integral_comparable k e
takes_comparable (relation o) k e = e
takes_comparable (connective o) k e = truthful_comparable k e

pub takes_one_comparable : (o : Sign) (k : Kind) → takes_one o k ≡ true → comparable k ≡ true
takes_one_comparable positive k e = integral_comparable k e
takes_one_comparable negative k e = integral_comparable k e
takes_one_comparable not k e = truthful_comparable k e

-- Two answers, of two kinds that are alike
pub record Common (t : Table) (j k m : Kind) (x y : Answer) : Type 0 where
  pub left : comparable j ≡ true
  pub right : comparable k ≡ true
  pub first : Good t m x
  pub second : Good t m y

-- A constant's answer a, from its expression's answer x: 19 where x is UNKNOWN and the type BOOLEAN, or else x itself
pub data Kept (t : Table) (d : Declared) : Answer → Answer → Type 0 where
  itself : {a : Answer} → Holds t d a → Kept t d a a
  unknown : d ≡ BOOLEAN → Kept t d (logical UNKNOWN) (end unknown_boolean)

pub record Result (t : Table) (d : Declared) (x a : Answer) : Type 0 where
  pub good : Good t (kind_of_type d) a
  pub kept : Kept t d x a

-- neither `?` nor an end is changed
no_value_held : (d : Declared) → indeterminate ≡ held d indeterminate
no_value_held INTEGER = refl
no_value_held BOOLEAN = refl
no_value_held LOGICAL = refl
no_value_held BINARY = refl
no_value_held STRING = refl
no_value_held (enumeration y) = refl
no_value_held other = refl

end_held : (d : Declared) (e : ℕ) → end e ≡ held d (end e)
end_held INTEGER e = refl
end_held BOOLEAN e = refl
end_held LOGICAL e = refl
end_held BINARY e = refl
end_held STRING e = refl
end_held (enumeration y) e = refl
end_held other e = refl

-- what fits a declared type is of its kind
common_left : (j k : Kind) → same j undetermined ≡ false → comparable (common j k) ≡ true → common j k ≡ j
common_left j k e c = by (same k undetermined) (same j k) refl refl
  where
    by : (p q : Bool) → same k undetermined ≡ p → same j k ≡ q → common j k ≡ j
    by true q f g = rw (e, f)
    by false true f g = rw (e, f, g)
    by false false f g = absurd (false≢true (rw (e, f, g) at c))

determined : (d : Declared) → same (kind_of_type d) undetermined ≡ false
determined INTEGER = refl
determined BOOLEAN = refl
determined LOGICAL = refl
determined BINARY = refl
determined STRING = refl
determined (enumeration y) = ne_eqb (y + 6) 1 (λ e. omega arith)
determined other = refl

pub common_typed : (d : Declared) (k : Kind) → comparable (common (kind_of_type d) k) ≡ true → comparable (kind_of_type d) ≡ true
common_typed d k c = ap comparable (sym (common_left (kind_of_type d) k (determined d) c)) ∙ c

module _ {t : Table} where
  pub good_of : {k : Kind} {a : Answer} → Good t k a → Of t k a
  good_of good-? = of-?
  good_of (good_end e) = of_end
  good_of (good_integer l) = of_integer
  good_of good_logical = of_logical
  good_of (good_binary l m) = of_binary
  good_of (good_string l) = of_string
  good_of (good_item i o) = of_item o

  -- ---- two kinds together: what is of either is of the common one
  of_undetermined : {a : Answer} (k : Kind) → Good t undetermined a → Good t k a
  of_undetermined k good-? = good-?
  of_undetermined k (good_end h) = good_end h

  pub recast : {j k : Kind} {a : Answer} → j ≡ k → Good t j a → Good t k a
  recast {a} e g = subst (λ (k : Kind). Good t k a) e g

  pub common_good :
      (j k : Kind) {x y : Answer} → comparable (common j k) ≡ true → (comparable j ≡ true → Good t j x) → (comparable k ≡ true → Good t k y) →
      Common t j k (common j k) x y
  common_good j k {x} {y} e g h = by (same j undetermined) (same k undetermined) (same j k) refl refl refl e
    where
      by :
          (p q r : Bool) → same j undetermined ≡ p → same k undetermined ≡ q → same j k ≡ r →
          comparable (cond p k (cond q j (cond r j untyped))) ≡ true → Common t j k (cond p k (cond q j (cond r j untyped))) x y
      by true q r i _ _ c =
          let u : j ≡ undetermined = same_kinds j undetermined i in
          let l : comparable j ≡ true = ap comparable u in
          record { left = l; right = c; first = of_undetermined k (recast u (g l)); second = h c }
      by false true r _ i _ c =
          let u : k ≡ undetermined = same_kinds k undetermined i in
          let l : comparable k ≡ true = ap comparable u in
          record { left = c; right = l; first = g c; second = of_undetermined j (recast u (h l)) }
      by false false true _ _ i c =
          let u : k ≡ j = sym (same_kinds j k i) in
          let l : comparable k ≡ true = ap comparable u ∙ c in
          record { left = c; right = l; first = g c; second = recast u (h l) }
      by false false false _ _ _ c = absurd (false≢true c)

  -- ---- integers
  pub exact_good : (z : ℤ) → Good t integers (exact z)
  unfolding exact
  exact_good z = by (ltb (mag z) (2 ^ 63)) refl
    where
      by : (b : Bool) → ltb (mag z) (2 ^ 63) ≡ b → Good t integers (cond b (integer z) (end outside))
      by true e = good_integer (ltb-true (mag z) (2 ^ 63) e)
      by false e = good_end outside_end

  divided_good : (b : Bool) (z : ℤ) → Good t integers (cond b (end zero_divisor) (exact z))
  divided_good true z = good_end zero_divisor_end
  divided_good false z = exact_good z

  pub computed_good : (o : Arithmetic) (x y : ℤ) → Good t integers (computed o x y)
  unfolding DIV MOD int.power
  computed_good minus x y = exact_good _
  computed_good times x y = exact_good _
  computed_good divide x y = divided_good (eqb (nat_abs y) 0) (quotient x y)
  computed_good modulo x y = divided_good (eqb (nat_abs y) 0) (remainder x y)
  computed_good power x (pos n) = exact_good _
  computed_good power x (negsuc n) = good_end negative_power_end

  -- ---- binaries
  pub join_good : (x y : List Bool) → 1 ≤ length x → Good t binaries (join x y)
  unfolding join
  join_good x y l = by (leb (length (x ++ y)) 63) refl
    where
      by : (b : Bool) → leb (length (x ++ y)) 63 ≡ b → Good t binaries (cond b (binary (x ++ y)) (end outside))
      by true e = good_binary {s = x ++ y} (simp length-append (omega arith)) (leb-true (length (x ++ y)) 63 e)
      by false e = good_end outside_end

  -- ---- strings
  pub join_strings_good : (x y : List ℕ) → Good t strings (join_strings x y)
  unfolding join_strings
  join_strings_good x y = by (leb (length (x ++ y)) most_bytes) refl
    where
      by : (b : Bool) → leb (length (x ++ y)) most_bytes ≡ b → Good t strings (cond b (string (x ++ y)) (end outside))
      by true e = good_string {s = x ++ y} (leb-true (length (x ++ y)) most_bytes e)
      by false e = good_end outside_end

  -- ---- operators: an end of an operand, or what the operation gives
  unless_end : {j k : Kind} {x z : Answer} → Good t j x → Good t k z → Good t k (given (end_in x) end z)
  unless_end good-? g = g
  unless_end (good_end h) g = good_end h
  unless_end (good_integer l) g = g
  unless_end good_logical g = g
  unless_end (good_binary l m) g = g
  unless_end (good_string l) g = g
  unless_end (good_item i o) g = g

  operated_good : (o : Operator) {k : Kind} {x y : Answer} → Good t k x → Good t k y → Good t (result o k) (operated o x y)
  operated_good plus good-? h = good-?
  operated_good plus (good_end e) h = good-?
  operated_good plus (good_integer l) good-? = good-?
  operated_good plus (good_integer l) (good_end e) = good-?
  operated_good plus (good_integer l) (good_integer m) = exact_good _
  operated_good plus good_logical h = good-?
  operated_good plus (good_binary l m) good-? = good-?
  operated_good plus (good_binary l m) (good_end e) = good-?
  operated_good plus (good_binary {s = x} l m) (good_binary {s = y} p q) = join_good x y l
  operated_good plus (good_string l) good-? = good-?
  operated_good plus (good_string l) (good_end e) = good-?
  operated_good plus (good_string {s = x} l) (good_string {s = y} m) = join_strings_good x y
  operated_good plus (good_item i o) h = good-?
  operated_good (arithmetic o) good-? h = good-?
  operated_good (arithmetic o) (good_end e) h = good-?
  operated_good (arithmetic o) (good_integer l) good-? = good-?
  operated_good (arithmetic o) (good_integer l) (good_end e) = good-?
  operated_good (arithmetic o) (good_integer {z = x} l) (good_integer {z = y} m) = computed_good o x y
  operated_good (arithmetic o) good_logical h = good-?
  operated_good (arithmetic o) (good_binary l m) h = good-?
  operated_good (arithmetic o) (good_string l) h = good-?
  operated_good (arithmetic o) (good_item i p) h = good-?
  operated_good (relation o) g h = good_logical
  operated_good (connective o) g h = good_logical

  pub combined_good : (o : Operator) {k : Kind} {x y : Answer} → Good t k x → Good t k y → Good t (result o k) (combined o x y)
  combined_good o g h = unless_end g (unless_end h (operated_good o g h))

  pub between_good :
      (o p : Relation) {j k : Kind} {x y z : Answer} → Good t j x → Good t j y → Good t k y → Good t k z →
      Good t logicals (between o p x y z)
  between_good o p g h i j = combined_good (connective and) (combined_good (relation o) g h) (combined_good (relation p) i j)

  pub applied_good : (o : Sign) {k : Kind} {x : Answer} → takes_one o k ≡ true → Good t k x → Good t (result_of_one o) (applied o x)
  applied_good positive e good-? = good-?
  applied_good positive e (good_end h) = good_end h
  applied_good positive e (good_integer l) = good_integer l
  applied_good positive e good_logical = absurd (false≢true e)
  applied_good positive e (good_binary l m) = absurd (false≢true e)
  applied_good positive e (good_string l) = absurd (false≢true e)
  applied_good positive e (good_item i o) = absurd (false≢true e)
  applied_good negative e good-? = good-?
  applied_good negative e (good_end h) = good_end h
  applied_good negative e (good_integer l) = exact_good _
  applied_good negative e good_logical = good-?
  applied_good negative e (good_binary l m) = good-?
  applied_good negative e (good_string l) = good-?
  applied_good negative e (good_item i o) = good-?
  applied_good not e g = unless_end g good_logical

  -- ---- constants
  kept : {d : Declared} {a : Answer} → Good t (kind_of_type d) a → Holds t d a → Result t d a a
  kept g h = record { good = g; kept = itself h }

  held_logical : (l : Logical) → Result t BOOLEAN (logical l) (boolean_answer l)
  held_logical FALSE = kept good_logical (a_member is_false)
  held_logical UNKNOWN = record { good = good_end unknown_boolean_end; kept = unknown refl }
  held_logical TRUE = kept good_logical (a_member is_true)

  pub held_good : (d : Declared) {a : Answer} → comparable (kind_of_type d) ≡ true → Good t (kind_of_type d) a → Result t d a (held d a)
  held_good INTEGER e good-? = kept good-? no_value
  held_good INTEGER e (good_end h) = kept (good_end h) (an_end h)
  held_good INTEGER e (good_integer l) = kept (good_integer l) (a_member (an_integer l))
  held_good BOOLEAN e good-? = kept good-? no_value
  held_good BOOLEAN e (good_end h) = kept (good_end h) (an_end h)
  held_good BOOLEAN e (good_logical {l}) = held_logical l
  held_good LOGICAL e good-? = kept good-? no_value
  held_good LOGICAL e (good_end h) = kept (good_end h) (an_end h)
  held_good LOGICAL e good_logical = kept good_logical (a_member a_logical)
  held_good BINARY e good-? = kept good-? no_value
  held_good BINARY e (good_end h) = kept (good_end h) (an_end h)
  held_good BINARY e (good_binary l m) = kept (good_binary l m) (a_member (a_binary l m))
  held_good STRING e good-? = kept good-? no_value
  held_good STRING e (good_end h) = kept (good_end h) (an_end h)
  held_good STRING e (good_string l) = kept (good_string l) (a_member (a_string l))
  held_good (enumeration y) e good-? = kept good-? no_value
  held_good (enumeration y) e (good_end h) = kept (good_end h) (an_end h)
  held_good (enumeration y) e (good_item i o) = kept (good_item i o) (a_member (an_item i o))
  held_good other e g = absurd (false≢true e)

  pub result_holds : {d : Declared} {x a : Answer} → Kept t d x a → Holds t d a
  result_holds (itself h) = h
  result_holds (unknown e) = an_end unknown_boolean_end

  pub declared_good :
      (d : Declared) (k : Kind) {a : Answer} → comparable (common (kind_of_type d) k) ≡ true → (comparable k ≡ true → Good t k a) →
      Common t (kind_of_type d) k (kind_of_type d) a a
  declared_good d k {a} c g =
      let r : Common t (kind_of_type d) k (common (kind_of_type d) k) indeterminate a = common_good (kind_of_type d) k c (λ e. good-?) g in
      let m = recast (common_left (kind_of_type d) k (determined d) c) r.second in
      record { left = r.left; right = r.right; first = m; second = m }

  -- and it is the only answer that the rules for a constant can give
  member_held : {d : Declared} {a : Answer} → Member t d a → a ≡ held d a
  member_held (an_integer l) = refl
  member_held is_false = refl
  member_held is_true = refl
  member_held a_logical = refl
  member_held (a_binary l m) = refl
  member_held (a_string l) = refl
  member_held (an_item i o) = refl

  pub holds_held : {d : Declared} {a : Answer} → Holds t d a → a ≡ held d a
  holds_held {d} no_value = no_value_held d
  holds_held {d} (an_end {e} m) = end_held d e
  holds_held (a_member m) = member_held m

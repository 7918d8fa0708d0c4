-- What the operators make of strings of which the lengths alone are told: the same as of the strings, but for their bytes. Only a relation of two strings
-- has to know the bytes.
use mathlib.Core.Path.{◌≡◌, refl, sym, ap, ap₂, ◌∙◌}
use mathlib.Core.Bool.{Bool, true, false, true≢false, cond}
use mathlib.Core.List.{List, ◌++◌}
use mathlib.Core.Option.{Option, none, some}
use Prim.Native.Nat.{ℕ, compare}
use native.Mathlib.Omega.{arith}
use lib.Dec.{leb}
use lib.ListN.{length, replicate, length-append, length-replicate}
use Rattle.express.specs.Tokens.Lexis.{most_bytes}
use Rattle.express.specs.Semantics.Answer.{Answer, UNKNOWN, indeterminate, integer, logical, binary, item, string, end, outside}
use Rattle.express.specs.Semantics.Bits.{join, compare_bits}
use Rattle.express.specs.Semantics.Declared.{Declared, INTEGER, BOOLEAN, LOGICAL, BINARY, STRING, enumeration, other}
use Rattle.express.specs.Semantics.Evaluate.{held}
use Rattle.express.specs.Semantics.Integer.{sum, compareℤ}
use Rattle.express.specs.Semantics.Logic.{compare_logical}
use Rattle.express.specs.Semantics.Operate.{integer_in, logical_in, binary_in, item_in, string_in, end_in, given, both, operated, combined, applied, between}
use Rattle.express.specs.Semantics.Relation.{Relation, related}
use Rattle.express.specs.Semantics.Shape.{and, Operator, plus, arithmetic, relation, connective, Sign, positive, negative, not}
use Rattle.express.specs.Semantics.Strings.{join_strings, compare_bytes}
use Rattle.strings.proofs.Laws.{length_both}
use Rattle.operations.specs.Meaning.{answer_of, of_size, sized}
use Rattle.operations.specs.declared.Answer as code
use Rattle.operations.specs.declared.Answer.TheVariants.{Indeterminate, Integer, Logical, Binary, Item, Text, Ended}

-- ---- strings, and the other answers
data View : Answer → Type 0 where
  a_string : (s : List ℕ) → View (string s)
  another : {a : Answer} → string_in a ≡ none → sized a ≡ a → View a

view : (a : Answer) → View a
view indeterminate = another refl refl
view (integer z) = another refl refl
view (logical l) = another refl refl
view (binary s) = another refl refl
view (item m) = another refl refl
view (string s) = a_string s
view (end e) = another refl refl

string_twice : (s : List ℕ) → sized (of_size (length s)) ≡ of_size (length s)
string_twice s = ap of_size (length-replicate (length s) 0)

pub sized_twice : (a : Answer) → sized (sized a) ≡ sized a
sized_twice a = by (view a)
  where
    by : {a : Answer} → View a → sized (sized a) ≡ sized a
    by (a_string s) = string_twice s
    by (another p q) = ap sized q

-- the answers of the code tell no bytes
pub answer_sized : (r : code.Answer) → sized (answer_of r) ≡ answer_of r
answer_sized Indeterminate = refl
answer_sized (Integer z) = refl
answer_sized (Logical l) = refl
answer_sized (Binary b) = refl
answer_sized (Item m) = refl
answer_sized (Text n) = ap of_size (length-replicate n 0)
answer_sized (Ended e) = refl

-- ---- two operands

-- where the bytes are asked for: a relation of two strings
abbrev pub compares_strings : Operator → Answer → Answer → Bool
compares_strings plus x y = false
compares_strings (arithmetic o) x y = false
compares_strings (relation o) x y = both (string_in x) (string_in y) (λ a b. true) false
compares_strings (connective o) x y = false

module _ {A B : Type 0} (f : A → A → B) (b : B) (s t : A) where
  first_alone : (m : Option A) → m ≡ none → both (some s) m f b ≡ both (some t) m f b
  first_alone none e = refl
  first_alone (some u) e = let z : ◌≡◌ {A = ℕ} 0 1 = cc in absurd (omega arith)

  second_alone : (m : Option A) → m ≡ none → both m (some s) f b ≡ both m (some t) f b
  second_alone none e = refl
  second_alone (some u) e = let z : ◌≡◌ {A = ℕ} 0 1 = cc in absurd (omega arith)

first_free : (o : Operator) (s t : List ℕ) (y : Answer) → string_in y ≡ none → operated o (string s) y ≡ operated o (string t) y
first_free plus s t y e = first_alone join_strings indeterminate s t (string_in y) e
first_free (arithmetic o) s t y e = refl
first_free (relation o) s t y e = ap (λ m. logical (given m (related o) UNKNOWN)) (first_alone (λ a b. some (compare_bytes a b)) none s t (string_in y) e)
first_free (connective o) s t y e = refl

second_free : (o : Operator) (s t : List ℕ) (x : Answer) → string_in x ≡ none → operated o x (string s) ≡ operated o x (string t)
second_free plus s t x e =
    ap (λ b. both (integer_in x) none sum (both (binary_in x) none join b)) (second_alone join_strings indeterminate s t (string_in x) e)
second_free (arithmetic o) s t x e = refl
second_free (relation o) s t x e =
    ap (λ m. logical
    (given (both (integer_in x) none (λ a b. some (compareℤ a b))
    (both (logical_in x) none (λ a b. some (compare_logical a b))
    (both (binary_in x) none (λ a b. some (compare_bits a b)) (both (item_in x) none (λ a b. some (compare a b)) m)))) (related o) UNKNOWN))
    (second_alone (λ a b. some (compare_bytes a b)) none s t (string_in x) e)
second_free (connective o) s t x e = refl

cut_alike : (u v : List ℕ) → length u ≡ length v → sized (cond (leb (length u) most_bytes) (string u) (end outside)) ≡ sized (cond (leb (length v) most_bytes) (string v) (end outside))
cut_alike u v e = by (leb (length u) most_bytes) ∙ ap (λ (n : ℕ). sized (cond (leb n most_bytes) (string v) (end outside))) e
  where
    by : (b : Bool) → sized (cond b (string u) (end outside)) ≡ sized (cond b (string v) (end outside))
    by true = ap of_size e
    by false = refl

join_alike : (s t : List ℕ) → sized (join_strings (replicate (length s) 0) (replicate (length t) 0)) ≡ sized (join_strings s t)
unfolding join_strings
join_alike s t = cut_alike (replicate (length s) 0 ++ replicate (length t) 0) (s ++ t) (length_both (length s) (length t) ∙ sym (length-append s t))

two_strings : (o : Operator) (s t : List ℕ) → compares_strings o (string s) (string t) ≡ false → sized (operated o (of_size (length s)) (of_size (length t))) ≡ sized (operated o (string s) (string t))
two_strings plus s t c = join_alike s t
two_strings (arithmetic o) s t c = refl
two_strings (relation o) s t c = absurd (true≢false c)
two_strings (connective o) s t c = refl

sized_operated : (o : Operator) {x y : Answer} → View x → View y → compares_strings o x y ≡ false → sized (operated o (sized x) (sized y)) ≡ sized (operated o x y)
sized_operated o (a_string s) (a_string t) c = two_strings o s t c
sized_operated o {y = y} (a_string s) (another p q) c =
    ap (λ v. sized (operated o (of_size (length s)) v)) q ∙ ap sized (first_free o (replicate (length s) 0) s y p)
sized_operated o {x = x} (another p q) (a_string t) c =
    ap (λ v. sized (operated o v (of_size (length t)))) q ∙ ap sized (second_free o (replicate (length t) 0) t x p)
sized_operated o (another p q) (another u v) c = ap₂ (λ a b. sized (operated o a b)) q v

same_end : {a : Answer} → View a → end_in (sized a) ≡ end_in a
same_end (a_string s) = refl
same_end (another p q) = ap end_in q

unless_end : {m n : Option ℕ} (z w : Answer) → m ≡ n → sized z ≡ sized w → sized (given m end z) ≡ sized (given n end w)
unless_end {m} {n} z w e h = by m ∙ ap (λ (m : Option ℕ). sized (given m end w)) e
  where
    by : (m : Option ℕ) → sized (given m end z) ≡ sized (given m end w)
    by none = h
    by (some e) = refl

-- THE COMBINATION of two answers, but for a relation of two strings
pub sized_combined : (o : Operator) (x y : Answer) → compares_strings o x y ≡ false → sized (combined o (sized x) (sized y)) ≡ sized (combined o x y)
sized_combined o x y c = unless_end _ _ (same_end (view x)) (unless_end _ _ (same_end (view y)) (sized_operated o (view x) (view y) c))

-- ---- one operand, and what a constant holds
pub sized_applied : (o : Sign) (x : Answer) → sized (applied o (sized x)) ≡ sized (applied o x)
sized_applied o x = by o (view x)
  where
    by : (o : Sign) {x : Answer} → View x → sized (applied o (sized x)) ≡ sized (applied o x)
    by positive (a_string s) = string_twice s
    by negative (a_string s) = refl
    by not (a_string s) = refl
    by o (another p q) = ap (λ v. sized (applied o v)) q

pub sized_held : (d : Declared) (x : Answer) → sized (held d (sized x)) ≡ sized (held d x)
sized_held INTEGER x = sized_twice x
sized_held BOOLEAN x = by (view x)
  where
    by : {x : Answer} → View x → sized (held BOOLEAN (sized x)) ≡ sized (held BOOLEAN x)
    by (a_string s) = string_twice s
    by (another p q) = ap (λ v. sized (held BOOLEAN v)) q
sized_held LOGICAL x = sized_twice x
sized_held BINARY x = sized_twice x
sized_held STRING x = sized_twice x
sized_held (enumeration y) x = sized_twice x
sized_held other x = sized_twice x

-- ---- intervals

-- a relation comes to no string
related_whole : (o : Relation) (x y : Answer) → sized (combined (relation o) x y) ≡ combined (relation o) x y
related_whole o x y = by (end_in x) (end_in y)
  where
    by : (m n : Option ℕ) → sized (given m end (given n end (operated (relation o) x y))) ≡ given m end (given n end (operated (relation o) x y))
    by (some e) n = refl
    by none (some e) = refl
    by none none = refl

pub sized_related : (o : Relation) (x y : Answer) → compares_strings (relation o) x y ≡ false → combined (relation o) (sized x) (sized y) ≡ combined (relation o) x y
sized_related o x y c = sym (related_whole o (sized x) (sized y)) ∙ sized_combined (relation o) x y c ∙ related_whole o x y

-- a relation of which one operand is no string
pub no_first : (o : Relation) (x y : Answer) → string_in x ≡ none → compares_strings (relation o) x y ≡ false
no_first o x y e = ap (λ m. both m (string_in y) (λ a b. true) false) e

pub no_second : (o : Relation) (x y : Answer) → string_in y ≡ none → compares_strings (relation o) x y ≡ false
no_second o x y e = by (string_in x) ∙ refl
  where
    by : (m : Option (List ℕ)) → both m (string_in y) (λ a b. true) false ≡ false
    by none = refl
    by (some s) = ap (λ n. both (some s) n (λ a b. true) false) e

-- an interval whose item is no string
pub sized_between :
    (o p : Relation) (x y z : Answer) → string_in y ≡ none → sized (between o p (sized x) (sized y) (sized z)) ≡ sized (between o p x y z)
sized_between o p x y z e =
    ap₂ (λ a b. sized (combined (connective and) a b)) (sized_related o x y (no_second o x y e)) (sized_related p y z (no_first p y z e))

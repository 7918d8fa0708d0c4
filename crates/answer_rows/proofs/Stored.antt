-- What the operators make of answers that a row holds is held by a row too; and a row gives back the answer that was stored in it.
use mathlib.Core.Path.{◌≡◌, refl, ◌∙◌, ap}
use mathlib.Core.Bool.{Bool, true, false, cond, ◌&&◌}
use mathlib.Core.List.{List, ◌++◌}
use mathlib.Core.Option.{Option, none, some}
use Prim.Native.Nat.{ℕ, ◌^◌, ◌≤◌}
use native.Mathlib.Omega.{arith}
use borrow.Author.Tests.{leb-true, le-leb, lt-ltb, ne_eqb}
use lib.Dec.{eqb, leb, ltb}
use lib.IntN.{ℤ, pos, negsuc, nat_abs}
use lib.ListN.{length, length-replicate}
use lib.Signed.{mag}
use mir.Syntax.{w64}
use mir.Val.{SFits}
use mir.Facts.{to_z-of_z}
use Rattle.express.specs.Tokens.Lexis.{most_bytes}
use Rattle.express.specs.Semantics.Answer.{Logical, FALSE, UNKNOWN, TRUE, Answer, indeterminate, integer, logical, binary, item, string, end}
use Rattle.express.specs.Semantics.AnswerRow.{AnswerRow, row, row_of, row_at}
use Rattle.express.specs.Semantics.Bits.{join}
use Rattle.express.specs.Semantics.Declared.{Declared, INTEGER, BOOLEAN, LOGICAL, BINARY, STRING, enumeration, other}
use Rattle.express.specs.Semantics.Evaluate.{boolean_answer, held}
use Rattle.express.specs.Semantics.Integer.{exact, quotient, remainder, DIV, MOD, sum, negation, power}
use Rattle.express.specs.Semantics.Operate.{integer_in, binary_in, string_in, end_in, given, both, computed, operated, combined, applied, between}
use Rattle.express.specs.Semantics.Relation.{Relation}
use Rattle.express.specs.Semantics.Shape.{Arithmetic, minus, times, divide, modulo, and, Operator, plus, arithmetic, relation, connective, Sign, positive, negative, not}
use Rattle.express.specs.Semantics.Shape as shape
use Rattle.express.specs.Semantics.Strings.{join_strings}
use Rattle.express.specs.Syntax.Tree.{Table, count}
use Rattle.express.proofs.Semantics.Bits.{bits_number}
use Rattle.express.proofs.Semantics.Bounds.{Fitting, fit-?, fit_end, fit_integer, fit_logical, fit_binary, fit_string, fit_item}
use Rattle.express.proofs.Semantics.Operations.{ends_range}
use Rattle.integers.proofs.Exact.{own}
use Rattle.operations.specs.Meaning.{sized}
use Rattle.answer_rows.specs.Stored.{storable, stored, sized_answer}

pub record Storable (a : Answer) : Type 0 where
  pub is : storable a ≡ true

sure : {a : Answer} → storable a ≡ true → Storable a
sure e = record { is = e }

-- ---- what the operators compute
choice : (t : Bool) {a b : Answer} → Storable a → Storable b → Storable (cond t a b)
choice true p q = p
choice false p q = q

exact_storable : (z : ℤ) → Storable (exact z)
unfolding exact
exact_storable z = choice (ltb (mag z) (2 ^ 63)) (sure {a = integer z} refl) (sure {a = end 16} refl)

computed_storable : (o : Arithmetic) (x y : ℤ) → Storable (computed o x y)
unfolding DIV MOD power
computed_storable minus x y = exact_storable _
computed_storable times x y = exact_storable _
computed_storable divide x y = choice (eqb (nat_abs y) 0) (sure {a = end 17} refl) (exact_storable (quotient x y))
computed_storable modulo x y = choice (eqb (nat_abs y) 0) (sure {a = end 17} refl) (exact_storable (remainder x y))
computed_storable shape.power x (pos n) = exact_storable _
computed_storable shape.power x (negsuc n) = sure {a = end 18} refl

join_by : (s : List Bool) (t : Bool) → leb (length s) 63 ≡ t → Storable (cond t (binary s) (end 16))
join_by s true e = sure {a = binary s} e
join_by s false e = sure {a = end 16} refl

join_storable : (xs ys : List Bool) → Storable (join xs ys)
unfolding join
join_storable xs ys = join_by (xs ++ ys) (leb (length (xs ++ ys)) 63) refl

text_by : (s : List ℕ) (t : Bool) → leb (length s) most_bytes ≡ t → Storable (cond t (string s) (end 16))
text_by s true e = sure {a = string s} e
text_by s false e = sure {a = end 16} refl

join_text_storable : (xs ys : List ℕ) → Storable (join_strings xs ys)
unfolding join_strings
join_text_storable xs ys = text_by (xs ++ ys) (leb (length (xs ++ ys)) most_bytes) refl

both_storable : {A : Type 0} (m n : Option A) (f : A → A → Answer) {b : Answer} → ((x y : A) → Storable (f x y)) → Storable b → Storable (both m n f b)
both_storable none n f h e = e
both_storable (some x) none f h e = e
both_storable (some x) (some y) f h e = h x y

no_value_storable : Storable indeterminate
no_value_storable = record { is = refl }

logical_storable : (l : Logical) → Storable (logical l)
logical_storable l = record { is = refl }

-- whatever the operands are
pub operated_storable : (o : Operator) (x y : Answer) → Storable (operated o x y)
operated_storable plus x y =
    both_storable (integer_in x) (integer_in y) sum (λ a b. exact_storable _)
    (both_storable (binary_in x) (binary_in y) join join_storable
    (both_storable (string_in x) (string_in y) join_strings join_text_storable no_value_storable))
operated_storable (arithmetic o) x y = both_storable (integer_in x) (integer_in y) (computed o) (computed_storable o) no_value_storable
operated_storable (relation o) x y = logical_storable _
operated_storable (connective o) x y = logical_storable _

-- ---- with the ends of operands
unless_end : {x z : Answer} → Storable x → Storable z → Storable (given (end_in x) end z)
unless_end {x = indeterminate} p q = q
unless_end {x = integer z} p q = q
unless_end {x = logical l} p q = q
unless_end {x = binary s} p q = q
unless_end {x = item m} p q = q
unless_end {x = string s} p q = q
unless_end {x = end e} p q = p

pub combined_storable : (o : Operator) {x y : Answer} → Storable x → Storable y → Storable (combined o x y)
combined_storable o p q = unless_end p (unless_end q (operated_storable o _ _))

negated_storable : (x : Answer) → Storable (given (integer_in x) negation indeterminate)
negated_storable indeterminate = no_value_storable
negated_storable (integer z) = exact_storable _
negated_storable (logical l) = no_value_storable
negated_storable (binary s) = no_value_storable
negated_storable (item m) = no_value_storable
negated_storable (string s) = no_value_storable
negated_storable (end e) = no_value_storable

pub applied_storable : (o : Sign) {x : Answer} → Storable x → Storable (applied o x)
applied_storable positive p = p
applied_storable negative {x} p = unless_end p (negated_storable x)
applied_storable not p = unless_end p (logical_storable _)

pub between_storable : (o p : Relation) {x y z : Answer} → Storable x → Storable y → Storable z → Storable (between o p x y z)
between_storable o p a b c = combined_storable (connective and) (combined_storable (relation o) a b) (combined_storable (relation p) b c)

boolean_storable : (l : Logical) → Storable (boolean_answer l)
boolean_storable FALSE = logical_storable FALSE
boolean_storable UNKNOWN = sure {a = end 19} refl
boolean_storable TRUE = logical_storable TRUE

pub held_storable : (d : Declared) {x : Answer} → Storable x → Storable (held d x)
held_storable INTEGER p = p
held_storable BOOLEAN {x = indeterminate} p = p
held_storable BOOLEAN {x = integer z} p = p
held_storable BOOLEAN {x = logical l} p = boolean_storable l
held_storable BOOLEAN {x = binary s} p = p
held_storable BOOLEAN {x = item m} p = p
held_storable BOOLEAN {x = string s} p = p
held_storable BOOLEAN {x = end e} p = p
held_storable LOGICAL p = p
held_storable BINARY p = p
held_storable STRING p = p
held_storable (enumeration y) p = p
held_storable other p = p

-- the answers of an evaluation (`Fitting` of express), for a table of up to 2 ^ 32 nodes
pub fitting_storable : {t : Table} {a : Answer} → count t ≤ 4294967296 → Fitting t a → Storable a
fitting_storable h fit-? = no_value_storable
fitting_storable h (fit_end {e} m) = let r = ends_range m in record { is = rw (le-leb 16 e r.0, le-leb e 19 r.1) }
fitting_storable h (fit_integer l) = record { is = refl }
fitting_storable h fit_logical = logical_storable _
fitting_storable h (fit_binary {s} l m) = record { is = le-leb (length s) 63 m }
fitting_storable h (fit_string {s} l) = record { is = le-leb (length s) most_bytes l }
fitting_storable h (fit_item {m} l) = record { is = lt-ltb m 4294967296 (omega arith) }

-- ---- storing and reading
pub kept : {a : Answer} → Storable a → stored a ≡ a
kept h = rw h.is

-- a string fits by its length alone
pub sized_storable : {a : Answer} → Storable a → Storable (sized a)
sized_storable {a = indeterminate} h = h
sized_storable {a = integer z} h = h
sized_storable {a = logical l} h = h
sized_storable {a = binary s} h = h
sized_storable {a = item m} h = h
sized_storable {a = string s} h = record { is = rw (length-replicate {A = ℕ} (length s) 0) h.is }
sized_storable {a = end e} h = h

-- and the row by itself tells no more
pub sized_row : (start : ℕ) (a : Answer) → row_at start (sized a) ≡ row_at start a
sized_row start indeterminate = refl
sized_row start (integer z) = refl
sized_row start (logical l) = refl
sized_row start (binary s) = refl
sized_row start (item m) = refl
sized_row start (string s) = ap (row 5 (pos start)) (length-replicate (length s) 0)
sized_row start (end e) = refl

first_of : (s t : Bool) → s && t ≡ true → s ≡ true
first_of true t e = refl
first_of false t e = e

back : (start : ℕ) (a : Answer) → storable a ≡ true → sized_answer (row_at start a) ≡ sized a
back start indeterminate h = refl
back start (integer z) h = refl
back start (logical FALSE) h = refl
back start (logical UNKNOWN) h = refl
back start (logical TRUE) h = refl
back start (binary s) h = ap binary (bits_number s)
back start (item m) h = refl
back start (string s) h = refl
back start (end e) h =
    rw (
      other_kind 0 (omega arith),
      other_kind 1 (omega arith),
      other_kind 2 (omega arith),
      other_kind 3 (omega arith),
      other_kind 4 (omega arith),
      other_kind 5 (omega arith),
    )
  where
    low : 16 ≤ e
    low = leb-true 16 e (first_of (leb 16 e) (leb e 19) h)

    other_kind : (k : ℕ) → k ≤ 5 → eqb e k ≡ false
    other_kind k l = ne_eqb e k (λ (q : e ≡ k). omega (arith, low))

-- a row that was made of an answer (`row_of`) is the row of that answer
pub row_kept : {a : Answer} {w : AnswerRow} → Storable a → w ≡ row_of (stored a) → w ≡ row_of a
row_kept h e = e ∙ ap row_of (kept h)

-- THE WAY BACK: what is read (`answer_of_row`) from the row of an answer, wherever its string starts, is that answer, but for the bytes of a string
pub row_back : (start : ℕ) {a b : Answer} {w : AnswerRow} → Storable a → w ≡ row_at start a → b ≡ stored (sized_answer w) → b ≡ sized a
row_back start {a} h e f =
    f ∙ ap (λ (w : AnswerRow). stored (sized_answer w)) e ∙ ap stored (back start a h.is) ∙ kept (sized_storable h)

-- the same for a caller, to whom the number of the row is what its 64 bits read as
pub read_back :
    (start : ℕ) {a b : Answer} {k : ℕ} {z : ℤ} {l : ℕ} → Storable a → SFits w64 z → row k z l ≡ row_at start a →
    b ≡ stored (sized_answer (row k (own z) l)) → b ≡ sized a
read_back start h f e g = row_back start h e (rw (to_z-of_z f) at g)

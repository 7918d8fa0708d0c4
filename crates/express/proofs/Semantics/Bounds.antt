-- Every answer that an evaluation comes to fits its row: 64 signed bits, 1 to 63 bits of a binary, a node of the table, up to 255 bytes of a string, or
-- one of the ends.
use mathlib.Core.Path.{◌≡◌, refl}
use mathlib.Core.Logic.{⊎_elim}
use mathlib.Core.Bool.{Bool}
use mathlib.Core.List.{List, [], ◌∷◌}
use Prim.Native.Nat.{ℕ, zero, suc, ◌^◌, ◌≤◌, ◌<◌}
use native.Mathlib.Decide.{ℕ_discrete, dec_lt}
use native.Mathlib.Omega.{arith}
use lib.ListN.{length, set, replicate, length-set, get_or-eq_default}
use lib.Seq.{get_or-set_same, get_or-set_other}
use lib.IntN.{ℤ, pos}
use lib.Signed.{mag}
use Rattle.relations.proofs.Select.{le_or}
use Rattle.express.specs.Syntax.NodeKind as node
use Rattle.express.specs.Syntax.Tree.{Table, count, kind, within}
use Rattle.express.specs.Semantics.Answer.{Logical, FALSE, UNKNOWN, TRUE, Answer, indeterminate, integer, logical, binary, item, string, end}
use Rattle.express.specs.Tokens.Lexis.{most_bytes}
use Rattle.express.specs.Semantics.Relation.{Relation}
use Rattle.express.specs.Semantics.Declared.{Declared, INTEGER, BOOLEAN, LOGICAL, BINARY, STRING, enumeration, other}
use Rattle.express.specs.Semantics.Shape.{Arithmetic, and, Operator, plus, arithmetic, relation, connective, Sign, positive, negative, not}
use Rattle.express.specs.Semantics.Shape.{Shape, integer_literal, logical_literal, binary_literal, string_literal, question, name, unary, operator, interval, interval_operator, type, constant}
use Rattle.express.specs.Semantics.Shape.{unevaluated, shape_in, Literals}
use Rattle.express.specs.Semantics.Shape as shapes
use Rattle.express.specs.Semantics.Operate.{Kind, end_in, given, operated, combined, applied, between}
use Rattle.express.specs.Semantics.Evaluate.{held, boolean_answer, answer_in, answer_at, run_in, value_in, evaluate}
use Rattle.express.proofs.Semantics.Operations.{Ends, unknown_boolean_end, Good, good-?, good_end, good_integer, good_logical, good_binary, good_string, good_item, exact_good}
use Rattle.express.proofs.Semantics.Operations.{computed_good, join_good, join_strings_good}
use Rattle.express.proofs.Semantics.Shapes.{Decoded, decoded_in}

-- an answer that fits its row; an item is a node of the table t
pub data Fitting (t : Table) : Answer → Type 0 where
  fit-? : Fitting t indeterminate
  fit_end : {e : ℕ} → Ends e → Fitting t (end e)
  fit_integer : {z : ℤ} → mag z < 2 ^ 63 → Fitting t (integer z)
  fit_logical : {l : Logical} → Fitting t (logical l)
  fit_binary : {s : List Bool} → 1 ≤ length s → length s ≤ 63 → Fitting t (binary s)
  fit_string : {s : List ℕ} → length s ≤ most_bytes → Fitting t (string s)
  fit_item : {m : ℕ} → m < count t → Fitting t (item m)

-- a node of a kind is one of the table
below : (t : Table) (m : ℕ) → kind t m ≡ node.enumeration_item → m < count t
below t m q = ⊎_elim (λ l. let z : kind t m ≡ 0 = get_or-eq_default t.kinds 0 l in absurd (omega arith)) (λ l. l) (le_or (count t) m)

module _ {t : Table} where
  -- ---- the operations
  good_fits : {k : Kind} {a : Answer} → Good t k a → Fitting t a
  good_fits good-? = fit-?
  good_fits (good_end h) = fit_end h
  good_fits (good_integer l) = fit_integer l
  good_fits good_logical = fit_logical
  good_fits (good_binary l m) = fit_binary l m
  good_fits (good_string l) = fit_string l
  good_fits (good_item {m} e o) = fit_item (below t m e)

  unless_end : {x z : Answer} → Fitting t x → Fitting t z → Fitting t (given (end_in x) end z)
  unless_end fit-? g = g
  unless_end (fit_end h) g = fit_end h
  unless_end (fit_integer l) g = g
  unless_end fit_logical g = g
  unless_end (fit_binary l m) g = g
  unless_end (fit_string l) g = g
  unless_end (fit_item m) g = g

  sum_fits : {x y : Answer} → Fitting t x → Fitting t y → Fitting t (operated plus x y)
  sum_fits (fit_integer l) (fit_integer m) = good_fits (exact_good _)
  sum_fits (fit_integer l) fit-? = fit-?
  sum_fits (fit_integer l) (fit_end h) = fit-?
  sum_fits (fit_integer l) fit_logical = fit-?
  sum_fits (fit_integer l) (fit_binary p q) = fit-?
  sum_fits (fit_integer l) (fit_string p) = fit-?
  sum_fits (fit_integer l) (fit_item m) = fit-?
  sum_fits (fit_binary {s = x} l m) (fit_binary {s = y} p q) = good_fits (join_good x y l)
  sum_fits (fit_binary l m) fit-? = fit-?
  sum_fits (fit_binary l m) (fit_end h) = fit-?
  sum_fits (fit_binary l m) (fit_integer p) = fit-?
  sum_fits (fit_binary l m) fit_logical = fit-?
  sum_fits (fit_binary l m) (fit_string p) = fit-?
  sum_fits (fit_binary l m) (fit_item i) = fit-?
  sum_fits (fit_string {s = x} l) (fit_string {s = y} m) = good_fits (join_strings_good x y)
  sum_fits (fit_string l) fit-? = fit-?
  sum_fits (fit_string l) (fit_end h) = fit-?
  sum_fits (fit_string l) (fit_integer p) = fit-?
  sum_fits (fit_string l) fit_logical = fit-?
  sum_fits (fit_string l) (fit_binary p q) = fit-?
  sum_fits (fit_string l) (fit_item i) = fit-?
  sum_fits fit-? g = fit-?
  sum_fits (fit_end h) g = fit-?
  sum_fits fit_logical g = fit-?
  sum_fits (fit_item m) g = fit-?

  arithmetic_fits : (o : Arithmetic) {x y : Answer} → Fitting t x → Fitting t y → Fitting t (operated (arithmetic o) x y)
  arithmetic_fits o (fit_integer {z = x} l) (fit_integer {z = y} m) = good_fits (computed_good o x y)
  arithmetic_fits o (fit_integer l) fit-? = fit-?
  arithmetic_fits o (fit_integer l) (fit_end h) = fit-?
  arithmetic_fits o (fit_integer l) fit_logical = fit-?
  arithmetic_fits o (fit_integer l) (fit_binary p q) = fit-?
  arithmetic_fits o (fit_integer l) (fit_string p) = fit-?
  arithmetic_fits o (fit_integer l) (fit_item m) = fit-?
  arithmetic_fits o fit-? g = fit-?
  arithmetic_fits o (fit_end h) g = fit-?
  arithmetic_fits o fit_logical g = fit-?
  arithmetic_fits o (fit_binary l m) g = fit-?
  arithmetic_fits o (fit_string l) g = fit-?
  arithmetic_fits o (fit_item m) g = fit-?

  operated_fits : (o : Operator) {x y : Answer} → Fitting t x → Fitting t y → Fitting t (operated o x y)
  operated_fits plus g h = sum_fits g h
  operated_fits (arithmetic o) g h = arithmetic_fits o g h
  operated_fits (relation o) g h = fit_logical
  operated_fits (connective o) g h = fit_logical

  pub combined_fits : (o : Operator) {x y : Answer} → Fitting t x → Fitting t y → Fitting t (combined o x y)
  combined_fits o g h = unless_end g (unless_end h (operated_fits o g h))

  pub applied_fits : (o : Sign) {x : Answer} → Fitting t x → Fitting t (applied o x)
  applied_fits positive g = g
  applied_fits negative fit-? = fit-?
  applied_fits negative (fit_end h) = fit_end h
  applied_fits negative (fit_integer l) = good_fits (exact_good _)
  applied_fits negative fit_logical = fit-?
  applied_fits negative (fit_binary l m) = fit-?
  applied_fits negative (fit_string l) = fit-?
  applied_fits negative (fit_item m) = fit-?
  applied_fits not g = unless_end g fit_logical

  pub between_fits : (o p : Relation) {x y z : Answer} → Fitting t x → Fitting t y → Fitting t z → Fitting t (between o p x y z)
  between_fits o p g h i = combined_fits (connective and) (combined_fits (relation o) g h) (combined_fits (relation p) h i)

  boolean_fits : (l : Logical) → Fitting t (boolean_answer l)
  boolean_fits FALSE = fit_logical
  boolean_fits UNKNOWN = fit_end unknown_boolean_end
  boolean_fits TRUE = fit_logical

  pub held_fits : (d : Declared) {x : Answer} → Fitting t x → Fitting t (held d x)
  held_fits INTEGER g = g
  held_fits BOOLEAN fit-? = fit-?
  held_fits BOOLEAN (fit_end h) = fit_end h
  held_fits BOOLEAN (fit_integer l) = fit_integer l
  held_fits BOOLEAN (fit_logical {l}) = boolean_fits l
  held_fits BOOLEAN (fit_binary l m) = fit_binary l m
  held_fits BOOLEAN (fit_string l) = fit_string l
  held_fits BOOLEAN (fit_item m) = fit_item m
  held_fits LOGICAL g = g
  held_fits BINARY g = g
  held_fits STRING g = g
  held_fits (enumeration y) g = g
  held_fits other g = g

-- ---- a node, an expression, and the constants
module _ (t e : Table) (c : List ℕ) (v : Literals e) (g : ℕ → Answer) (known : (d : ℕ) → Fitting t (g d)) where
  pub answer_fits : (f : ℕ → Answer) → ((m : ℕ) → Fitting t (f m)) → (n : ℕ) → Fitting t (answer_in e f g n (shape_in t e c n))
  answer_fits f h n = by (shape_in t e c n) (decoded_in t e c n)
    where
      by : (s : Shape) → Decoded t e c n s → Fitting t (answer_in e f g n s)
      by (integer_literal w) d = fit_integer {z = pos w} (rw d.1 (v.small n d.0))
      by (logical_literal l) d = fit_logical
      by (binary_literal s) d = fit_binary {s = s} (rw d.1 (v.some_bits n d.0)) (rw d.1 (v.few_bits n d.0))
      by (string_literal s) d = fit_string {s = s} (rw d.1 (v.few_bytes n d.0.0 d.0.1))
      by question d = fit-?
      by (shapes.item m) d = fit_item (below t m d)
      by (name k) d = known k
      by (unary o) d = applied_fits o (h _)
      by (operator o) d = combined_fits o (h _) (h _)
      by (interval o p) d = between_fits o p (h _) (h _) (h _)
      by interval_operator d = fit-?
      by (type k) d = fit-?
      by (constant k) d = held_fits k (h _)
      by unevaluated d = fit-?

  set_fits : (xs : List Answer) (n : ℕ) (a : Answer) → ((m : ℕ) → Fitting t (answer_at xs m)) → Fitting t a → (m : ℕ) → Fitting t (answer_at (set xs n a) m)
  set_fits xs n a h f m = by (ℕ_discrete m n) (dec_lt n (length xs))
    where
      by : Dec (m ≡ n) → Dec (n < length xs) → Fitting t (answer_at (set xs n a) m)
      by (yes q) (yes l) = rw (q, get_or-set_same xs n a indeterminate l) f
      by (yes q) (no l) =
          let k : length (set xs n a) ≤ m = rw length-set (omega arith) in
          let z : answer_at (set xs n a) m ≡ indeterminate = get_or-eq_default (set xs n a) indeterminate k in
          rw z fit-?
      by (no q) x = rw (get_or-set_other xs n m a indeterminate q) (h m)

  -- all entries of a lent list fit, if they did before
  pub run_fits : (ns : List ℕ) (xs : List Answer) → ((m : ℕ) → Fitting t (answer_at xs m)) → (m : ℕ) → Fitting t (answer_at (run_in t e c g ns xs) m)
  unfolding run_in
  run_fits [] xs h = h
  run_fits (n ∷ ns) xs h = run_fits ns _ (set_fits xs n _ h (answer_fits (answer_at xs) h n))

  blank_fits : (n m : ℕ) → Fitting t (answer_at (replicate n indeterminate) m)
  blank_fits n m = rw (blank n m) fit-?
    where
      blank : (n m : ℕ) → answer_at (replicate n indeterminate) m ≡ indeterminate
      blank zero m = refl
      blank (suc n) zero = refl
      blank (suc n) (suc m) = blank n m

  pub value_fits : (n : ℕ) → Fitting t (value_in t e c g n)
  value_fits n = run_fits (within e n) _ (blank_fits (suc n)) n

-- the constants of a file
pub evaluate_fits :
    (t : Table) (b : List ℕ) → Literals t → (ds : List ℕ) (known : List Answer) → ((m : ℕ) → Fitting t (answer_at known m)) →
    (m : ℕ) → Fitting t (answer_at (evaluate t b ds known) m)
unfolding evaluate
evaluate_fits t b v [] known h = h
evaluate_fits t b v (d ∷ ds) known h =
    evaluate_fits t b v ds _ (set_fits t t b v (answer_at known) h known d _ h (value_fits t t b v (answer_at known) h d))

-- The nodes of an expression by their shapes: what has no operands is one node, and the rest are operations. And the operations that give a string.
use mathlib.Core.Path.{◌≡◌, refl}
use mathlib.Core.Logic.{◌⊎◌, inl, inr, ⊎_elim}
use mathlib.Core.Bool.{Bool, true, false, cond}
use mathlib.Core.Option.{Option, none, some}
use mathlib.Core.List.{List, ◌++◌}
use Prim.Native.Nat.{ℕ, ◌<◌}
use native.Mathlib.Omega.{arith}
use borrow.Author.Tests.{eqb-true}
use lib.Dec.{eqb, leb}
use lib.ListN.{length}
use Rattle.ebnf.specs.Set.{mem}
use Rattle.ebnf.proofs.Sets.{in_cases, mem_one}
use Rattle.relations.proofs.Select.{or_cases}
use Rattle.express.specs.Syntax.NodeKind as node
use Rattle.express.specs.Syntax.Tree.{Table, count, kind, size, terminal, lower, upper}
use Rattle.express.specs.Tokens.Lexis.{most_bytes}
use Rattle.express.specs.Semantics.Integer.{negation}
use Rattle.express.specs.Semantics.Answer.{Answer, indeterminate, integer, logical, binary, item, string, end, outside}
use Rattle.express.specs.Semantics.Bits.{join}
use Rattle.express.specs.Semantics.Strings.{join_strings}
use Rattle.express.specs.Semantics.Shape.{Sign, positive, negative, not, Operator, plus, arithmetic, relation, connective, Shape, integer_literal, logical_literal, binary_literal, string_literal, question}
use Rattle.express.specs.Semantics.Shape.{name, unary, operator, interval, interval_operator, type, constant, unevaluated}
use Rattle.express.specs.Semantics.Shape.{sign_of, bound_of, operator_of, evaluated, shape_in}
use Rattle.express.specs.Semantics.Shape as shapes
use Rattle.express.specs.Semantics.Operate.{integers, string_in, integer_in, binary_in, end_in, given, both, operated, combined, applied}
use Rattle.express.proofs.Syntax.KindSets.{leaf_kinds, operation_kinds}
use Rattle.express.proofs.Syntax.Formed.{Formed}
use Rattle.express.proofs.Semantics.Spans.{Part}
use Rattle.express.proofs.Semantics.Operations.{Good, good-?, good_end, good_integer, exact_good, computed_good}

pub clash : {A : Type 0} → ◌≡◌ {A = ℕ} 0 1 → A
clash z = absurd (omega arith)

-- ---- shapes with operands; `/` is one that is not evaluated
abbrev pub Operation : Shape → Type 0
Operation (integer_literal v) = ⊥
Operation (logical_literal l) = ⊥
Operation (binary_literal s) = ⊥
Operation (string_literal s) = ⊥
Operation question = ⊥
Operation (shapes.item m) = ⊥
Operation (name c) = ⊥
Operation (unary o) = Unit {0}
Operation (operator o) = Unit {0}
Operation (interval o p) = Unit {0}
Operation interval_operator = ⊥
Operation (type d) = ⊥
Operation (constant d) = ⊥
Operation unevaluated = Unit {0}

module _ (t e : Table) (c : List ℕ) (n : ℕ) where
  unary_shape : kind e n ≡ node.unary → shape_in t e c n ≡ unary (sign_of (terminal e n))
  unfolding shape_in
  unary_shape q = rw q

  operator_shape : kind e n ≡ node.two_operand → shape_in t e c n ≡ evaluated (operator_of (terminal e n))
  unfolding shape_in
  operator_shape q = rw q

  pub interval_shape : kind e n ≡ node.interval → shape_in t e c n ≡ interval (bound_of (terminal e (lower e n))) (bound_of (terminal e (upper e n)))
  unfolding shape_in
  interval_shape q = rw q

  evaluated_operation : (o : Option Operator) → Operation (evaluated o)
  evaluated_operation none = tt
  evaluated_operation (some o) = tt

  pub alone_or_operation : Formed e → n < count e → Part (kind e n) → (size e n ≡ 1) ⊎ Operation (shape_in t e c n)
  unfolding mem
  alone_or_operation f l p =
      ⊎_elim (λ q. inl (f.leaf n l q))
      (λ q. ⊎_elim (λ i. inr (rw (unary_shape (eqb-true (kind e n) node.unary i)) tt))
      (λ i. ⊎_elim (λ j. inr (rw (operator_shape (eqb-true (kind e n) node.two_operand j)) (evaluated_operation (operator_of (terminal e n)))))
      (λ j. inr (rw (interval_shape (mem_one (kind e n) node.interval j)) tt)) (or_cases (eqb (kind e n) node.two_operand) _ i))
      (or_cases (eqb (kind e n) node.unary) _ q))
      (in_cases (kind e n) leaf_kinds operation_kinds p)

-- ---- operations that give a string

-- integers are none
no_integer : {t : Table} {a : Answer} {s : List ℕ} → Good t integers a → a ≡ string s → ⊥
no_integer good-? q = clash (cc)
no_integer (good_end h) q = clash (cc)
no_integer (good_integer l) q = clash (cc)

module _ {s : List ℕ} where
  unless_end : (x z : Answer) → given (end_in x) end z ≡ string s → z ≡ string s
  unless_end indeterminate z q = q
  unless_end (integer v) z q = q
  unless_end (logical v) z q = q
  unless_end (binary v) z q = q
  unless_end (item v) z q = q
  unless_end (string v) z q = q
  unless_end (end v) z q = clash (cc)

  -- what comes of two values that are both there, or else
  both_string :
      {A : Type 0} (p q : Option A) (f : A → A → Answer) (z : Answer) → both p q f z ≡ string s →
      ((a : A) × (b : A) × (p ≡ some a) × (q ≡ some b) × (f a b ≡ string s)) ⊎ (z ≡ string s)
  both_string none q f z h = inr h
  both_string (some a) none f z h = inr h
  both_string (some a) (some b) f z h = inl (a, b, refl, refl, h)

  no_binary : (x y : List Bool) → join x y ≡ string s → ⊥
  unfolding join
  no_binary x y = by (leb (length (x ++ y)) 63)
    where
      by : (b : Bool) → cond b (binary (x ++ y)) (end outside) ≡ string s → ⊥
      by true q = clash (cc)
      by false q = clash (cc)

  joined_bytes : (x y : List ℕ) → join_strings x y ≡ string s → x ++ y ≡ s
  unfolding join_strings
  joined_bytes x y = by (leb (length (x ++ y)) most_bytes)
    where
      by : (b : Bool) → cond b (string (x ++ y)) (end outside) ≡ string s → x ++ y ≡ s
      by true q = cc
      by false q = clash (cc)

  string_of : (x : Answer) → string_in x ≡ some s → x ≡ string s
  string_of indeterminate q = clash (cc)
  string_of (integer v) q = clash (cc)
  string_of (logical v) q = clash (cc)
  string_of (binary v) q = clash (cc)
  string_of (item v) q = clash (cc)
  string_of (string v) q = cc
  string_of (end v) q = clash (cc)

-- a string joined of two
pub record Joined (x y : Answer) (s : List ℕ) : Type 0 where
  pub left : List ℕ
  pub right : List ℕ
  pub left_is : x ≡ string left
  pub right_is : y ≡ string right
  pub all : left ++ right ≡ s

module _ (t : Table) where
  operated_string : (o : Operator) (x y : Answer) (s : List ℕ) → operated o x y ≡ string s → (o ≡ plus) × Joined x y s
  operated_string plus x y s h = (
    refl,
    ⊎_elim (λ r. absurd (no_integer {t = t} (exact_good _) r.4))
        (λ h₁. ⊎_elim (λ r. absurd (no_binary r.0 r.1 r.4))
        (λ h₂. ⊎_elim
        (λ r. record { left = r.0; right = r.1; left_is = string_of x r.2; right_is = string_of y r.3; all = joined_bytes r.0 r.1 r.4 })
        (λ h₃. clash (cc)) (both_string (string_in x) (string_in y) join_strings _ h₂))
        (both_string (binary_in x) (binary_in y) join _ h₁))
        (both_string (integer_in x) (integer_in y) _ _ h),
  )
  operated_string (arithmetic o) x y s h =
      ⊎_elim (λ r. absurd (no_integer {t = t} (computed_good o r.0 r.1) r.4)) (λ q. clash (cc)) (both_string (integer_in x) (integer_in y) _ _ h)
  operated_string (relation o) x y s h = clash (cc)
  operated_string (connective o) x y s h = clash (cc)

  pub combined_string : (o : Operator) (x y : Answer) (s : List ℕ) → combined o x y ≡ string s → (o ≡ plus) × Joined x y s
  combined_string o x y s h = operated_string o x y s (unless_end y _ (unless_end x _ h))

  pub applied_string : (o : Sign) (x : Answer) (s : List ℕ) → applied o x ≡ string s → x ≡ string s
  applied_string positive x s h = h
  applied_string negative x s h = by x (unless_end x _ h)
    where
      by : (x : Answer) → given (integer_in x) negation indeterminate ≡ string s → x ≡ string s
      by indeterminate q = clash (cc)
      by (integer v) q = absurd (no_integer {t = t} (exact_good _) q)
      by (logical v) q = clash (cc)
      by (binary v) q = clash (cc)
      by (item v) q = clash (cc)
      by (string v) q = clash (cc)
      by (end v) q = clash (cc)
  applied_string not x s h = clash (let q = unless_end x _ h in cc)

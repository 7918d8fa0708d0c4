-- Typing and evaluation of one expression go by its own nodes: whatever a lent list held before, what they come to is the same.
use mathlib.Core.Path.{◌≡◌, refl}
use mathlib.Core.Logic.{◌⊎◌, inl, inr}
use mathlib.Core.List.{List}
use Prim.Native.Nat.{ℕ, zero, suc, ◌+◌, ◌≤◌, ◌<◌}
use native.Mathlib.Decide.{ℕ_discrete}
use native.Mathlib.Omega.{arith}
use lib.ListN.{length, set, replicate, length-set, length-replicate}
use lib.Seq.{get_or-set_same, get_or-set_other}
use Rattle.relations.specs.Select.{span}
use Rattle.express.specs.Syntax.NodeKind as node
use Rattle.express.specs.Syntax.Tree.{Table, count, kind, size, first, last, left, middle, low, within}
use Rattle.express.specs.Semantics.Answer.{Answer, indeterminate}
use Rattle.express.specs.Semantics.Shape.{Shape, integer_literal, logical_literal, binary_literal, string_literal, question, item, name, unary, operator, interval}
use Rattle.express.specs.Semantics.Shape.{interval_operator, type, constant, unevaluated, shape_in}
use Rattle.express.specs.Semantics.Operate.{Kind, untyped}
use Rattle.express.specs.Semantics.Kind.{Finding, of_kind, fault, finding_in, kind_at, Typing, typed, ill_typed, if_found, type_nodes_in, type_expression_in}
use Rattle.express.specs.Semantics.Evaluate.{answer_in, answer_at, run_in, value_in}
use Rattle.express.proofs.Syntax.Formed.{Formed}
use Rattle.express.proofs.Semantics.Shapes.{Decoded, decoded_in}
use Rattle.express.proofs.Semantics.Spans.{Part, Below, last_below, left_below, five_below, value_below, in_constant, in_expression}

-- a constant, or the node of an expression
pub record Root (t : Table) (r : ℕ) : Type 0 where
  pub known : r < count t
  pub sort : (kind t r ≡ node.constant) ⊎ Part (kind t r)

-- the trees of its nodes lie in its own
root_whole : (t : Table) → Formed t → (r : ℕ) → Root t r → (m : ℕ) → first t r ≤ m → m ≤ r → first t r ≤ first t m
root_whole t f r R m lo hi = by (ℕ_discrete m r) R.sort
  where
    by : Dec (m ≡ r) → (kind t r ≡ node.constant) ⊎ Part (kind t r) → first t r ≤ first t m
    by (yes q) s = rw q (omega arith)
    by (no q) (inl e) = (in_constant t f r m R.known e lo (omega arith)).whole
    by (no q) (inr p) = (in_expression t f r m R.known p (record { from = lo; upto = hi })).whole

module _ (t e : Table) (c : List ℕ) (f : Formed e) where
  -- ---- evaluation

  -- the answer of a node goes by those of its children
  pub same_answer :
      (p q g : ℕ → Answer) (n : ℕ) → n < count e → ((m : ℕ) → Below e n m → p m ≡ q m) →
      answer_in e p g n (shape_in t e c n) ≡ answer_in e q g n (shape_in t e c n)
  same_answer p q g n l h = by (shape_in t e c n) (decoded_in t e c n)
    where
      by : (s : Shape) → Decoded t e c n s → answer_in e p g n s ≡ answer_in e q g n s
      by (integer_literal v) d = refl
      by (logical_literal v) d = refl
      by (binary_literal v) d = refl
      by (string_literal v) d = refl
      by question d = refl
      by (item m) d = refl
      by (name k) d = refl
      by (unary o) d = rw (h (last n) (last_below e f n l d))
      by (operator o) d = let b = left_below e f n l d in rw (h (left e n) b.0, h (last n) b.1)
      by (interval o i) d =
          let b = five_below e f n l d in
          rw (h (low e n) b.low_below, h (middle e n) b.middle_below, h (last n) b.high_below)
      by interval_operator d = refl
      by (type k) d = refl
      by (constant k) d = rw (h (last n) (value_below e f n l d.0))
      by unevaluated d = refl

  module _ (g : ℕ → Answer) where
    -- two lists agree from s up to n
    abbrev Agree : ℕ → ℕ → List Answer → List Answer → Type 0
    Agree s n xs ys = (m : ℕ) → s ≤ m → m < n → answer_at xs m ≡ answer_at ys m

    run_same :
        (s d n j : ℕ) (xs ys : List Answer) → n + j ≡ d → d ≤ count e → d ≤ length xs → d ≤ length ys →
        ((m : ℕ) → n ≤ m → m < d → s ≤ first e m) → Agree s n xs ys → Agree s d (run_in t e c g (span n j) xs) (run_in t e c g (span n j) ys)
    unfolding run_in span
    run_same s d n zero xs ys q k x y w old = λ m lo hi. old m lo (omega arith)
    run_same s d n (suc j) xs ys q k x y w old =
        run_same s d (suc n) j (set xs n a) (set ys n b) (omega arith) k (rw length-set x) (rw length-set y) (λ m lo. w m (omega arith)) new
      where
        a : Answer
        a = answer_in e (answer_at xs) g n (shape_in t e c n)

        b : Answer
        b = answer_in e (answer_at ys) g n (shape_in t e c n)

        same : a ≡ b
        same =
            same_answer (answer_at xs) (answer_at ys) g n (omega arith)
            (λ m u. let v = w n (omega arith) (omega arith) in old m (omega (arith, u.from)) u.under)

        new : Agree s (suc n) (set xs n a) (set ys n b)
        new m lo hi = by (ℕ_discrete m n)
          where
            by : Dec (m ≡ n) → answer_at (set xs n a) m ≡ answer_at (set ys n b) m
            by (yes i) = rw (i, get_or-set_same xs n a indeterminate (omega arith), get_or-set_same ys n b indeterminate (omega arith)) same
            by (no i) = rw (get_or-set_other xs n m a indeterminate i, get_or-set_other ys n m b indeterminate i) (old m lo (omega arith))

    -- WHATEVER THE LIST HELD, what stands at the root afterwards is the value
    pub value_run : (r : ℕ) → Root e r → (xs : List Answer) → r < length xs → answer_at (run_in t e c g (within e r) xs) r ≡ value_in t e c g r
    value_run r R xs l =
        let k = R.known in
        let z = f.inside r k in
        let y = f.some r k in
        let q : length (replicate (suc r) indeterminate) ≡ suc r = length-replicate _ _ in
        run_same (first e r) (suc r) (first e r) (size e r) xs (replicate (suc r) indeterminate) (omega arith) (omega arith) (omega arith) (omega arith)
        (λ m lo hi. root_whole e f r R m lo (omega arith)) (λ m lo hi. absurd (omega arith)) r (omega arith) (omega arith)

  -- ---- typing

  module _ (b : List ℕ) where
    -- what is found at a node goes by the kinds of its children
    pub same_finding_in :
        (j k : ℕ → Kind) (n : ℕ) → n < count e → ((m : ℕ) → Below e n m → j m ≡ k m) →
        finding_in t b e j n (shape_in t e c n) ≡ finding_in t b e k n (shape_in t e c n)
    same_finding_in j k n l h = by (shape_in t e c n) (decoded_in t e c n)
      where
        by : (s : Shape) → Decoded t e c n s → finding_in t b e j n s ≡ finding_in t b e k n s
        by (integer_literal v) d = refl
        by (logical_literal v) d = refl
        by (binary_literal v) d = refl
        by (string_literal v) d = refl
        by question d = refl
        by (item m) d = refl
        by (name k) d = refl
        by (unary o) d = rw (h (last n) (last_below e f n l d))
        by (operator o) d = let b = left_below e f n l d in rw (h (left e n) b.0, h (last n) b.1)
        by (interval o i) d =
            let b = five_below e f n l d in
            rw (h (low e n) b.low_below, h (middle e n) b.middle_below, h (last n) b.high_below)
        by interval_operator d = refl
        by (type k) d = refl
        by (constant k) d = rw (h (last n) (value_below e f n l d.0))
        by unevaluated d = refl

    abbrev Alike : ℕ → ℕ → List Kind → List Kind → Type 0
    Alike s n ks js = (m : ℕ) → s ≤ m → m < n → kind_at ks m ≡ kind_at js m

    -- two typings: the same fault at the same node, or none, and kinds that agree from s up to d
    pub data Same (s d : ℕ) : Typing → Typing → Type 0 where
      both_typed : {ks js : List Kind} → Alike s d ks js → Same s d (typed ks) (typed js)
      both_ill : {p n : ℕ} → Same s d (ill_typed p n) (ill_typed p n)

    type_same :
        (s d n j : ℕ) (ks js : List Kind) → n + j ≡ d → d ≤ count e → d ≤ length ks → d ≤ length js →
        ((m : ℕ) → n ≤ m → m < d → s ≤ first e m) → Alike s n ks js → Same s d (type_nodes_in t b e c (span n j) ks) (type_nodes_in t b e c (span n j) js)
    unfolding type_nodes_in span
    type_same s d n zero ks js q k x y w old = both_typed (λ m lo hi. old m lo (omega arith))
    type_same s d n (suc j) ks js q k x y w old =
        rw same
        (by (finding_in t b e (kind_at js) n (shape_in t e c n))
        (λ h. type_same s d (suc n) j (set ks n h) (set js n h) (omega arith) k (rw length-set x) (rw length-set y) (λ m lo. w m (omega arith)) (new h)))
      where
        same : finding_in t b e (kind_at ks) n (shape_in t e c n) ≡ finding_in t b e (kind_at js) n (shape_in t e c n)
        same =
            same_finding_in (kind_at ks) (kind_at js) n (omega arith)
            (λ m u. let v = w n (omega arith) (omega arith) in old m (omega (arith, u.from)) u.under)

        new : (h : Kind) → Alike s (suc n) (set ks n h) (set js n h)
        new h m lo hi = at (ℕ_discrete m n)
          where
            at : Dec (m ≡ n) → kind_at (set ks n h) m ≡ kind_at (set js n h) m
            at (yes i) = rw (i, get_or-set_same ks n h untyped (omega arith), get_or-set_same js n h untyped (omega arith))
            at (no i) = rw (get_or-set_other ks n m h untyped i, get_or-set_other js n m h untyped i) (old m lo (omega arith))

        by : (z : Finding) → ((h : Kind) → Same s d (type_nodes_in t b e c (span (suc n) j) (set ks n h)) (type_nodes_in t b e c (span (suc n) j) (set js n h)))
            → Same s d (if_found z n (λ h. type_nodes_in t b e c (span (suc n) j) (set ks n h))) (if_found z n (λ h. type_nodes_in t b e c (span (suc n) j) (set js n h)))
        by (of_kind h) more = more h
        by (fault p) more = both_ill

    -- WHATEVER THE LIST HELD, the typing of an expression comes to the same
    pub type_any :
        (r : ℕ) → Root e r → (ks js : List Kind) → r < length ks → r < length js →
        Same (first e r) (suc r) (type_expression_in t b e c r ks) (type_expression_in t b e c r js)
    type_any r R ks js l h =
        let k = R.known in
        let z = f.inside r k in
        let y = f.some r k in
        type_same (first e r) (suc r) (first e r) (size e r) ks js (omega arith) (omega arith) (omega arith) (omega arith)
        (λ m lo hi. root_whole e f r R m lo (omega arith)) (λ m lo hi. absurd (omega arith))

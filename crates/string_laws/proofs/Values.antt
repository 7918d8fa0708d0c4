-- The value of a node is its answer from the values of its children; that of a constant is held from the value of its expression.
use mathlib.Core.Path.{◌≡◌, refl, ap, ◌∙◌}
use mathlib.Core.Logic.{◌⊎◌, inl, inr}
use mathlib.Core.List.{List, [], ◌∷◌, ◌++◌}
use Prim.Native.Nat.{ℕ, suc, ◌+◌, ◌-◌, ◌≤◌, ◌<◌}
use native.Mathlib.Omega.{arith}
use lib.ListN.{length, set, replicate, length-replicate}
use lib.Seq.{get_or-set_same}
use Rattle.relations.specs.Select.{span}
use Rattle.relations.proofs.Select.{span_append, span_mem}
use Rattle.express.specs.Syntax.NodeKind as node
use Rattle.express.specs.Syntax.Tree.{Table, count, kind, size, first, last, within}
use Rattle.express.specs.Semantics.Answer.{Answer, indeterminate}
use Rattle.express.specs.Semantics.Declared.{declared_type}
use Rattle.express.specs.Semantics.Shape.{shape_in}
use Rattle.express.specs.Semantics.Evaluate.{answer_in, answer_at, run_in, held, value_in, value}
use Rattle.express.proofs.Syntax.Formed.{Formed}
use Rattle.express.proofs.Semantics.Shapes.{constant_shape}
use Rattle.express.proofs.Semantics.Spans.{Part, Below, Inside, in_constant, in_expression}
use Rattle.express.proofs.Semantics.Scratch.{Root, same_answer, value_run}
use Rattle.express.proofs.Semantics.Walk.{length_run, run_other}

-- ---- evaluation in parts
module _ (t e : Table) (c : List ℕ) (g : ℕ → Answer) where
  run_append : (ns ms : List ℕ) (xs : List Answer) → run_in t e c g (ns ++ ms) xs ≡ run_in t e c g ms (run_in t e c g ns xs)
  unfolding run_in
  run_append [] ms xs = refl
  run_append (n ∷ ns) ms xs = run_append ns ms (set xs n (answer_in e (answer_at xs) g n (shape_in t e c n)))

  run_one : (n : ℕ) (xs : List Answer) → run_in t e c g (span n 1) xs ≡ set xs n (answer_in e (answer_at xs) g n (shape_in t e c n))
  unfolding run_in span
  run_one n xs = refl

  -- a row of nodes, after those before it
  run_spans : (lo j k : ℕ) (xs : List Answer) → run_in t e c g (span lo (j + k)) xs ≡ run_in t e c g (span (lo + j) k) (run_in t e c g (span lo j) xs)
  run_spans lo j k xs = rw (span_append lo j k) (run_append (span lo j) (span (lo + j) k) xs)

module _ (t e : Table) (c : List ℕ) (f : Formed e) where
  -- a child is the node of an expression, and its nodes are among those of its parent
  child_inside : (n m : ℕ) → Root e n → Below e n m → Inside e f n m
  child_inside n m R b = by R.sort
    where
      by : (kind e n ≡ node.constant) ⊎ Part (kind e n) → Inside e f n m
      by (inl q) = in_constant e f n m R.known q b.from b.under
      by (inr p) = in_expression e f n m R.known p (record { from = b.from; upto = omega (arith, b.under) })

  module _ (g : ℕ → Answer) where
    -- a row of nodes that has all nodes of a root leaves its value there
    run_value :
        (m : ℕ) → Root e m → (lo k : ℕ) (xs : List Answer) → lo ≤ first e m → m < lo + k → m < length xs →
        answer_at (run_in t e c g (span lo k) xs) m ≡ value_in t e c g m
    run_value m R lo k xs a b long =
        let i = f.inside m R.known in
        let z = f.some m R.known in
        let j = first e m - lo in
        let h = lo + k - (m + 1) in
        let ys = run_in t e c g (span lo j) xs in
        let zs = run_in t e c g (within e m) ys in
        let p : k ≡ j + (size e m + h) = omega arith in
        let q : lo + j ≡ first e m = omega arith in
        let r : first e m + size e m ≡ m + 1 = omega arith in
        let u : run_in t e c g (span lo k) xs ≡ run_in t e c g (span (m + 1) h) zs =
        ap (λ (d : ℕ). run_in t e c g (span lo d) xs) p ∙ run_spans t e c g lo j (size e m + h) xs ∙
        ap (λ (d : ℕ). run_in t e c g (span d (size e m + h)) ys) q ∙ run_spans t e c g (first e m) (size e m) h ys ∙
        ap (λ (d : ℕ). run_in t e c g (span d h) zs) r in
        ap (λ (vs : List Answer). answer_at vs m) u ∙
        run_other t e c g (span (m + 1) h) zs m (λ x. let s = span_mem (m + 1) h m x in omega arith) ∙
        value_run t e c f g m R ys (let l : length ys ≡ length xs = length_run t e c g (span lo j) xs in omega arith)

    -- THE VALUE OF A NODE, from those of its children
    pub value_step : (n : ℕ) → Root e n → value_in t e c g n ≡ answer_in e (value_in t e c g) g n (shape_in t e c n)
    value_step n R =
        let i = f.inside n R.known in
        let z = f.some n R.known in
        let xs = replicate (suc n) indeterminate in
        let k = n - first e n in
        let ys = run_in t e c g (span (first e n) k) xs in
        let a = answer_in e (answer_at ys) g n (shape_in t e c n) in
        let long : length xs ≡ suc n = length-replicate (suc n) indeterminate in
        let l : length ys ≡ length xs = length_run t e c g (span (first e n) k) xs in
        let p : size e n ≡ k + 1 = omega arith in
        let q : first e n + k ≡ n = omega arith in
        let u : run_in t e c g (within e n) xs ≡ set ys n a =
        ap (λ (d : ℕ). run_in t e c g (span (first e n) d) xs) p ∙ run_spans t e c g (first e n) k 1 xs ∙
        ap (λ (d : ℕ). run_in t e c g (span d 1) ys) q ∙ run_one t e c g n ys in
        ap (λ (vs : List Answer). answer_at vs n) u ∙ get_or-set_same ys n a indeterminate (omega arith) ∙
        same_answer t e c f (answer_at ys) (value_in t e c g) g n R.known
        (λ m b.
        let s = child_inside n m R b in
        let d = b.under in
        let w = s.whole in
        run_value m (record { known = omega (arith, R.known); sort = inr s.part }) (first e n) k xs w (omega arith) (omega arith))

-- and of a constant, from that of its expression
pub constant_value :
    (t : Table) (b : List ℕ) → Formed t → (g : ℕ → Answer) → (d : ℕ) → d < count t → kind t d ≡ node.constant →
    value t b g d ≡ held (declared_type t b d) (value t b g (last d))
constant_value t b f g d l h =
    value_step t t b f g d (record { known = l; sort = inl h }) ∙ ap (answer_in t (value t b g) g d) (constant_shape t b d h)

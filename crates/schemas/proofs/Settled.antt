-- The answers of the constants of a file: each is the value of its constant, with those answers for the constants that it names; so whoever evaluates
-- the constants in any order in which each stands after those that it names comes to the same.
use mathlib.Core.Path.{◌≡◌, refl, sym, ap, subst, ◌∙◌}
use mathlib.Core.Logic.{◌⊎◌, inl, inr}
use mathlib.Core.Bool.{true}
use mathlib.Core.List.Memᴰ
use mathlib.Core.List.{List, [], ◌∷◌, Memᴰ}
use Prim.Native.Nat.{ℕ, zero, suc, ◌≤◌, ◌<◌}
use native.Mathlib.Decide.{ℕ_discrete}
use native.Mathlib.Omega.{arith}
use borrow.Author.Tests.{eqb-true, le-leb}
use lib.ListN.{length, set, replicate, length-set, length-replicate}
use lib.Seq.{get_or-set_same, get_or-set_other}
use Rattle.relations.specs.Reach.{Joins}
use Rattle.relations.specs.Sorted.{Sorted, done, next}
use Rattle.relations.proofs.Select.{span_mem, and_both, mem_keep, mem_upto, keep_mem, upto_mem}
use Rattle.express.specs.Syntax.NodeKind as node
use Rattle.express.specs.Syntax.Grammar.{file}
use Rattle.express.specs.Syntax.Syntax.{Read}
use Rattle.express.specs.Syntax.Tree.{Table, count, kind, size, first, is, in_constant, within, nodes}
use Rattle.express.specs.Tokens.Scanned.{Scanned}
use Rattle.express.specs.Names.Scope.{bindings}
use Rattle.express.specs.Names.Fault.{constant_edges}
use Rattle.express.specs.Names.Names.{WellNamed}
use Rattle.express.specs.Semantics.Answer.{Answer, indeterminate}
use Rattle.express.specs.Semantics.Shape.{Shape, integer_literal, logical_literal, binary_literal, string_literal, question, item, name, unary, operator, interval}
use Rattle.express.specs.Semantics.Shape.{interval_operator, type, constant, unevaluated, shape}
use Rattle.express.specs.Semantics.Order.{constant_order}
use Rattle.express.specs.Semantics.Evaluate.{answer_in, answer_at, run_in, value, evaluate, answers}
use Rattle.express.proofs.Syntax.FormedRows.{formed_rows}
use Rattle.express.proofs.Semantics.Spans.{constant_owner}
use Rattle.express.proofs.Semantics.ConstantOrder.{named_edge, arranged}
use Rattle.express.proofs.Semantics.Bounds.{fit-?, evaluate_fits}
use Rattle.express.proofs.Tokens.Literals.{literals}
use Rattle.answer_rows.proofs.Stored.{Storable, fitting_storable}
use Rattle.schemas.specs.Rows.{answer_of_constant}

-- ---- what an evaluation asks of the constants: the answers of those that its nodes name
module _ (t : Table) (b : List ℕ) (g h : ℕ → Answer) where
  abbrev Alike : List ℕ → Type 0
  Alike ns = (n : ℕ) → Memᴰ n ns → (c : ℕ) → shape t b n ≡ name c → g c ≡ h c

  node_same : (f : ℕ → Answer) (n : ℕ) → ((c : ℕ) → shape t b n ≡ name c → g c ≡ h c) → answer_in t f g n (shape t b n) ≡ answer_in t f h n (shape t b n)
  node_same f n a = by (shape t b n) a
    where
      by : (s : Shape) → ((c : ℕ) → s ≡ name c → g c ≡ h c) → answer_in t f g n s ≡ answer_in t f h n s
      by (integer_literal v) q = refl
      by (logical_literal v) q = refl
      by (binary_literal v) q = refl
      by (string_literal v) q = refl
      by question q = refl
      by (item m) q = refl
      by (name c) q = q c refl
      by (unary o) q = refl
      by (operator o) q = refl
      by (interval o p) q = refl
      by interval_operator q = refl
      by (type d) q = refl
      by (constant d) q = refl
      by unevaluated q = refl

  run_alike : (ns : List ℕ) (xs : List Answer) → Alike ns → run_in t t b g ns xs ≡ run_in t t b h ns xs
  unfolding run_in
  run_alike [] xs a = refl
  run_alike (n ∷ ns) xs a =
      ap (λ (v : Answer). run_in t t b g ns (set xs n v)) (node_same (answer_at xs) n (a n (Memᴰ.head refl))) ∙
      run_alike ns _ (λ m i. a m (Memᴰ.tail i))

  pub value_alike : (d : ℕ) → Alike (within t d) → value t b g d ≡ value t b h d
  value_alike d a = ap (λ (xs : List Answer). answer_at xs d) (run_alike (within t d) (replicate (suc d) indeterminate) a)

pub blank : (n m : ℕ) → answer_at (replicate n indeterminate) m ≡ indeterminate
blank zero m = refl
blank (suc n) zero = refl
blank (suc n) (suc m) = blank n m

module _ {t : Table} (R : Read file t) (W : WellNamed t) where
  abbrev Edge : ℕ → ℕ → Type 0
  Edge d c = Joins (constant_edges t) d c

  -- a node of a constant names what the constant has an edge to
  pub uses_edge : (d : ℕ) → is t node.constant d ≡ true → d < count t → (n : ℕ) → Memᴰ n (within t d) → (c : ℕ) → shape t (bindings t) n ≡ name c → Edge d c
  uses_edge d k l n m c e =
      let f = formed_rows R in
      let s = span_mem (first t d) (size t d) n m in
      let lo = s.0 in
      let hi = s.1 in
      let a = f.inside d l in
      let z = f.some d l in
      let o = constant_owner t f d n l (eqb-true (kind t d) node.constant k) lo (omega arith) in
      let i : in_constant t n ≡ true = rw o (and_both _ _ k (le-leb _ _ lo)) in
      subst (λ (x : ℕ). Edge x c) o (named_edge t W n c (omega arith) i e)

  -- the constants that have passed: each has the value that goes by what is known, and names only such
  record Settled (passed : List ℕ) (known : List Answer) : Type 0 where
    is_value : (c : ℕ) → Memᴰ c passed → answer_at known c ≡ value t (bindings t) (answer_at known) c
    closed : (c x : ℕ) → Memᴰ c passed → Edge c x → Memᴰ x passed
    constants : (c : ℕ) → Memᴰ c passed → (is t node.constant c ≡ true) × (c < count t)

  module _ {passed : List ℕ} {known : List Answer} (S : Settled passed known) (d : ℕ) (k : is t node.constant d ≡ true) (l : d < count t) (r : count t ≤ length known)
      (e : (c : ℕ) → Edge d c → Memᴰ c passed) where
    abbrev new : Answer
    new = value t (bindings t) (answer_at known) d

    abbrev after : List Answer
    after = set known d new

    at_d : answer_at after d ≡ new
    at_d = get_or-set_same known d new indeterminate (omega arith)

    agree : (c : ℕ) → Memᴰ c passed → answer_at after c ≡ answer_at known c
    agree c m = by (ℕ_discrete c d)
      where
        by : Dec (c ≡ d) → answer_at after c ≡ answer_at known c
        by (yes q) = rw q (at_d ∙ sym (S.is_value d (subst (λ (x : ℕ). Memᴰ x passed) q m)))
        by (no q) = get_or-set_other known d c new indeterminate q

    same_value : (c : ℕ) → is t node.constant c ≡ true → c < count t → ((x : ℕ) → Edge c x → Memᴰ x passed) →
        value t (bindings t) (answer_at known) c ≡ value t (bindings t) (answer_at after) c
    same_value c i j u = value_alike t (bindings t) (answer_at known) (answer_at after) c (λ n m x q. sym (agree x (u x (uses_edge c i j n m x q))))

    settled_more : Settled (d ∷ passed) after
    settled_more =
        record {
          is_value = value_of;
          closed = closed_more;
          constants = of;
        }
      where
        value_of : (c : ℕ) → Memᴰ c (d ∷ passed) → answer_at after c ≡ value t (bindings t) (answer_at after) c
        value_of c (Memᴰ.head q) = rw q (at_d ∙ same_value d k l e)
        value_of c (Memᴰ.tail m) =
            let p = S.constants c m in agree c m ∙ S.is_value c m ∙ same_value c p.0 p.1 (λ x u. S.closed c x m u)

        closed_more : (c x : ℕ) → Memᴰ c (d ∷ passed) → Edge c x → Memᴰ x (d ∷ passed)
        closed_more c x (Memᴰ.head q) u = Memᴰ.tail (e x (subst (λ (y : ℕ). Edge y x) q u))
        closed_more c x (Memᴰ.tail m) u = Memᴰ.tail (S.closed c x m u)

        of : (c : ℕ) → Memᴰ c (d ∷ passed) → (is t node.constant c ≡ true) × (c < count t)
        of c (Memᴰ.head q) = rw q (k, l)
        of c (Memᴰ.tail m) = S.constants c m

  settled_all :
      {passed ds : List ℕ} {known : List Answer} → Settled passed known → Sorted Edge passed ds → count t ≤ length known →
      ((c : ℕ) → Memᴰ c ds → (is t node.constant c ≡ true) × (c < count t)) → (c : ℕ) → Memᴰ c passed ⊎ Memᴰ c ds →
      answer_at (evaluate t (bindings t) ds known) c ≡ value t (bindings t) (answer_at (evaluate t (bindings t) ds known)) c
  unfolding evaluate
  settled_all S done r a c (inl m) = S.is_value c m
  settled_all S done r a c (inr m) = absurd (Memᴰ.not-nil m)
  settled_all {known = known} S (next {ds = ds} {d = d} e more) r a c m =
      let p = a d (Memᴰ.head refl) in
      settled_all (settled_more S d p.0 p.1 r e) more (rw length-set r) (λ x i. a x (Memᴰ.tail i)) c (by m)
    where
      by : {passed : List ℕ} → Memᴰ c passed ⊎ Memᴰ c (d ∷ ds) → Memᴰ c (d ∷ passed) ⊎ Memᴰ c ds
      by (inl m) = inl (Memᴰ.tail m)
      by (inr (Memᴰ.head q)) = inl (Memᴰ.head q)
      by (inr (Memᴰ.tail m)) = inr m

  -- EACH ANSWER IS THE VALUE of its constant, with the answers of the constants
  pub settled : (c : ℕ) → is t node.constant c ≡ true → c < count t → answer_of_constant t c ≡ value t (bindings t) (answer_of_constant t) c
  unfolding answers
  settled c k l =
      let o = arranged t W in
      let q : length (replicate (count t) indeterminate) ≡ count t = length-replicate _ _ in
      settled_all {passed = []} {ds = constant_order t} {known = replicate (count t) indeterminate}
      (record { is_value = λ c m. absurd (Memᴰ.not-nil m); closed = λ c x m. absurd (Memᴰ.not-nil m); constants = λ c m. absurd (Memᴰ.not-nil m) })
      o.sorted (omega arith)
      (λ c m. let u = keep_mem (is t node.constant) (nodes t) (o.among c m) in (u.1, upto_mem (count t) c u.0)) c
      (inr (o.complete c (mem_keep (is t node.constant) (nodes t) (mem_upto (count t) c l) k)))

  -- and a row holds it
  pub answer_storable : Scanned t → count t ≤ 4294967296 → (c : ℕ) → Storable (answer_of_constant t c)
  unfolding answers
  answer_storable S few c =
      fitting_storable few
      (evaluate_fits t (bindings t) (literals R S) (constant_order t) (replicate (count t) indeterminate) (λ m. rw (blank (count t) m) fit-?) c)

-- A computed test of an order of constants: what passes it is one.
use mathlib.Core.Path.{◌≡◌, sym, ap, ◌∙◌}
use mathlib.Core.Logic.{⊎_elim}
use mathlib.Core.Bool.{Bool, true, not, ◌&&◌, ◌||◌}
use mathlib.Core.List.Memᴰ
use mathlib.Core.List.{List, [], ◌∷◌, Memᴰ}
use Prim.Native.Nat.{ℕ, ◌-◌, ◌<◌}
use native.Mathlib.Decide.{ℕ_discrete}
use native.Mathlib.Omega.{arith}
use borrow.Author.Tests.{eqb-true, eq-eqb, ltb-true}
use lib.Dec.{eqb, ltb}
use Rattle.express.specs.Syntax.NodeKind as node
use Rattle.relations.specs.Select.{span, any}
use Rattle.express.specs.Syntax.Tree.{Table, count, kind, first, nodes, is, is_declaration, owner}
use Rattle.express.specs.Semantics.Shape.{Shape, integer_literal, logical_literal, binary_literal, string_literal, question, item, name}
use Rattle.express.specs.Semantics.Shape.{unary, operator, interval, interval_operator, type, constant, unevaluated, shape}
use Rattle.express.specs.Semantics.Order.{Uses, Order}
use Rattle.relations.specs.Sorted.{Sorted, done, next}
use Rattle.relations.proofs.Select.{and_fst, and_snd, any_mem, mem_span, first_is}
use Rattle.relations.proofs.Topological.{sorted_reaches, sorted_narrower}
use Rattle.express.proofs.Semantics.Shapes.{constant_shape}

unfoldable pub every : (ℕ → Bool) → List ℕ → Bool
every p [] = true
every p (n ∷ ns) = p n && every p ns

each : (p : ℕ → Bool) (ns : List ℕ) → every p ns ≡ true → (n : ℕ) → Memᴰ n ns → p n ≡ true
unfolding every
each p [] e n m = absurd (Memᴰ.not-nil m)
each p (k ∷ ns) e n m =
    ⊎_elim (λ q. ap p q ∙ and_fst (p k) (every p ns) e) (λ h. each p ns (and_snd (p k) (every p ns) e) n h) (Memᴰ.cases_cons m)

abbrev pub among : List ℕ → ℕ → Bool
among ns c = any (eqb c) ns

among_mem : (ns : List ℕ) (c : ℕ) → among ns c ≡ true → Memᴰ c ns
among_mem ns c e = let r = any_mem (eqb c) ns e in Memᴰ.cast (eqb-true c r.0 r.2) r.1

-- the constant that a shape names passes a test
abbrev names_pass : (ℕ → Bool) → Shape → Bool
names_pass p (integer_literal v) = true
names_pass p (logical_literal l) = true
names_pass p (binary_literal s) = true
names_pass p (string_literal s) = true
names_pass p question = true
names_pass p (item m) = true
names_pass p (name c) = p c
names_pass p (unary o) = true
names_pass p (operator o) = true
names_pass p (interval x y) = true
names_pass p interval_operator = true
names_pass p (type d) = true
names_pass p (constant d) = true
names_pass p unevaluated = true

unfoldable pub in_order : Table → List ℕ → List ℕ → List ℕ → Bool
in_order t b passed [] = true
in_order t b passed (d ∷ ds) =
    ltb d (count t) && is t node.constant d && every (λ n. names_pass (among passed) (shape t b n)) (span (first t d) (d - first t d)) && in_order t b (d ∷ passed) ds

-- a node that is used stands before the constant that uses it
use_before : (t : Table) (b : List ℕ) {d c : ℕ} → kind t d ≡ node.constant → (u : Uses t b d c) → u.node < d
unfolding owner
use_before t b {d} {c} e u = by (ℕ_discrete u.node d)
  where
    by : Dec (u.node ≡ d) → u.node < d
    by (yes q) =
        let x = constant_shape t b u.node (ap (kind t) q ∙ e) in
        let y = u.names in
        absurd (let z : ◌≡◌ {A = ℕ} 0 1 = cc in omega arith)
    by (no h) = let l = (first_is (is_declaration t) u.node (count t - u.node)).from in omega (arith, u.owned)

module _ (t : Table) (b : List ℕ) where
  abbrev names_passed : List ℕ → ℕ → Bool
  names_passed passed d = every (λ n. names_pass (among passed) (shape t b n)) (span (first t d) (d - first t d))

  sorted : (passed ds : List ℕ) → in_order t b passed ds ≡ true → Sorted (Uses t b) passed ds
  unfolding in_order
  sorted passed [] e = done
  sorted passed (d ∷ ds) e =
      let test = names_passed passed d in
      let three = and_fst (ltb d (count t) && is t node.constant d && test) (in_order t b (d ∷ passed) ds) e in
      let two = and_fst (ltb d (count t) && is t node.constant d) test three in
      let k = eqb-true (kind t d) node.constant (and_snd (ltb d (count t)) (is t node.constant d) two) in
      next
      (λ c u.
      let l = use_before t b k u in
      among_mem passed c
      (ap (names_pass (among passed)) (sym u.names) ∙
      each (λ n. names_pass (among passed) (shape t b n)) (span (first t d) (d - first t d))
      (and_snd (ltb d (count t) && is t node.constant d) test three) u.node (mem_span (first t d) (d - first t d) u.node u.from (omega (arith, u.from)))))
      (sorted (d ∷ passed) ds (and_snd (ltb d (count t) && is t node.constant d && test) (in_order t b (d ∷ passed) ds) e))

  are_constants : (passed ds : List ℕ) → in_order t b passed ds ≡ true → (c : ℕ) → Memᴰ c ds → (c < count t) × (kind t c ≡ node.constant)
  unfolding in_order
  are_constants passed [] e c m = absurd (Memᴰ.not-nil m)
  are_constants passed (d ∷ ds) e c m =
      let test = names_passed passed d in
      let three = and_fst (ltb d (count t) && is t node.constant d && test) (in_order t b (d ∷ passed) ds) e in
      let two = and_fst (ltb d (count t) && is t node.constant d) test three in
      ⊎_elim
      (λ q. rw q (ltb-true d (count t) (and_fst (ltb d (count t)) (is t node.constant d) two), eqb-true (kind t d) node.constant (and_snd (ltb d (count t)) (is t node.constant d) two)))
      (λ m'. are_constants (d ∷ passed) ds (and_snd (ltb d (count t) && is t node.constant d && test) (in_order t b (d ∷ passed) ds) e) c m') (Memᴰ.cases_cons m)

  pub order_passes :
      (ds : List ℕ) → in_order t b [] ds ≡ true → every (λ c. not (is t node.constant c) || among ds c) (nodes t) ≡ true → Order t b ds
  order_passes ds e f =
      record {
        sorted = sorted_narrower (λ d c m N. N.reached) (sorted_reaches (λ a c m u. absurd (Memᴰ.not-nil m)) (sorted [] ds e));
        among = are_constants [] ds e;
        complete = λ c l q.
            among_mem ds c
            (rw (eq-eqb (kind t c) node.constant q) at
            (each (λ c. not (is t node.constant c) || among ds c) (nodes t) f c (mem_span 0 (count t) c (omega arith) (omega arith))));
      }

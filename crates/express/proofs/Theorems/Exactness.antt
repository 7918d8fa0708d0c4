-- THE THEOREM of demand 3, `exactness`: of a table that is well formed and that typing accepts, with an order of its constants, the rules give
-- each constant exactly the answer that the evaluation does.
use mathlib.Core.Path.{◌≡◌, refl, sym, ap, ap₂, subst, ◌∙◌}
use mathlib.Core.Logic.{◌⊎◌, inl, inr}
use mathlib.Core.Bool.{Bool, true, false, cond, ◌&&◌, false≢true}
use mathlib.Core.List.Memᴰ
use mathlib.Core.List.{List, ◌∷◌, Memᴰ}
use Prim.Native.Nat.{ℕ, zero, suc, ◌+◌, ◌≤◌, ◌<◌}
use native.Mathlib.Decide.{ℕ_discrete}
use native.Mathlib.Omega.{arith}
use lib.ListN.{length, set, replicate, length-set, length-replicate}
use lib.Seq.{get_or-set_same, get_or-set_other}
use Rattle.express.specs.Semantics.Answer.{Answer, indeterminate}
use Rattle.express.specs.Syntax.NodeKind as node
use Rattle.relations.specs.Select.{span}
use Rattle.express.specs.Syntax.Tree.{Table, count, kind, size, first, last, left, middle, low}
use Rattle.express.proofs.Syntax.Formed.{Formed}
use Rattle.express.specs.Semantics.Declared.{Declared, BOOLEAN, declared_type}
use Rattle.express.specs.Semantics.Shape.{relation, Shape, integer_literal, logical_literal, binary_literal, string_literal, question, name}
use Rattle.express.specs.Semantics.Shape.{unary, operator, interval, interval_operator, type, constant, unevaluated, shape, Literals}
use Rattle.express.specs.Semantics.Shape as shapes
use Rattle.express.specs.Semantics.Operate.{Kind, integers, logicals, binaries, strings, undetermined, untyped, comparable, takes, takes_one, combined, applied}
use Rattle.express.specs.Semantics.Rule.{Holds, an_end, Gives, an_integer_literal, a_logical_literal, a_binary_literal, a_string_literal}
use Rattle.express.specs.Semantics.Rule.{a_question, a_name, a_sign, an_operator, an_interval, a_constant, an_unknown_boolean, Exactly}
use Rattle.express.specs.Semantics.Rule as rule
use Rattle.express.specs.Semantics.Kind.{common, kind_of_type, of_kind, fault, if_fits, if_evaluated, finding, kind_at, typed, typing, Constant, Fits}
use Rattle.express.specs.Semantics.Evaluate.{held, answer_in, answer_at, run_in, value, evaluate, answers}
use Rattle.relations.specs.Reach.{direct}
use Rattle.relations.specs.Sorted.{Sorted, done, next}
use Rattle.express.specs.Semantics.Order.{Needs, Order}
use Rattle.relations.proofs.Select.{and_fst, and_snd}
use Rattle.express.proofs.Semantics.Operations.{unknown_boolean_end, Good, good-?, good_integer, good_logical, good_binary, good_string, good_item, good_of}
use Rattle.express.proofs.Semantics.Operations.{recast, common_good, declared_good, common_typed, takes_comparable, takes_one_comparable, combined_good, between_good, applied_good, Kept, itself, unknown, held_good, holds_held}
use Rattle.express.proofs.Semantics.Shapes.{Decoded, decoded, constant_shape}
use Rattle.express.proofs.Semantics.Spans.{Below, last_below, left_below, five_below, value_below, in_constant, constant_owner, constant_of}
use Rattle.express.proofs.Semantics.Typed.{typing_fits}

-- ---- one node

-- what a node of the given shape goes by: P of each of its children, Q of the constant that it names
abbrev needs : Table → (ℕ → Type 0) → (ℕ → Type 0) → ℕ → Shape → Type 0
needs t P Q n (integer_literal v) = Unit {0}
needs t P Q n (logical_literal l) = Unit {0}
needs t P Q n (binary_literal s) = Unit {0}
needs t P Q n (string_literal s) = Unit {0}
needs t P Q n question = Unit {0}
needs t P Q n (shapes.item m) = Unit {0}
needs t P Q n (name c) = Q c
needs t P Q n (unary o) = P (last n)
needs t P Q n (operator o) = P (left t n) × P (last n)
needs t P Q n (interval o p) = P (low t n) × P (middle t n) × P (last n)
needs t P Q n interval_operator = Unit {0}
needs t P Q n (type d) = Unit {0}
needs t P Q n (constant d) = P (last n)
needs t P Q n unevaluated = Unit {0}

needs_map :
    (t : Table) (P Q P' Q' : ℕ → Type 0) (n : ℕ) (s : Shape) → ((c : ℕ) → P c → P' c) → ((c : ℕ) → Q c → Q' c) → needs t P Q n s → needs t P' Q' n s
needs_map t P Q P' Q' n (integer_literal v) f g h = tt
needs_map t P Q P' Q' n (logical_literal l) f g h = tt
needs_map t P Q P' Q' n (binary_literal l) f g h = tt
needs_map t P Q P' Q' n (string_literal l) f g h = tt
needs_map t P Q P' Q' n question f g h = tt
needs_map t P Q P' Q' n (shapes.item m) f g h = tt
needs_map t P Q P' Q' n (name c) f g h = g c h
needs_map t P Q P' Q' n (unary o) f g h = f _ h
needs_map t P Q P' Q' n (operator o) f g h = (f _ h.0, f _ h.1)
needs_map t P Q P' Q' n (interval o p) f g h = (f _ h.0, f _ h.1, f _ h.2)
needs_map t P Q P' Q' n interval_operator f g h = tt
needs_map t P Q P' Q' n (type d) f g h = tt
needs_map t P Q P' Q' n (constant d) f g h = f _ h
needs_map t P Q P' Q' n unevaluated f g h = tt

-- what a finding of a kind says
pub fits_kind : (p : Bool) {j k : Kind} → if_fits p j ≡ of_kind k → (p ≡ true) × (j ≡ k)
fits_kind true e = (refl, cc)
fits_kind false e = (cc, cc)

pub evaluated_kind : (d : Declared) {j k : Kind} → if_evaluated d j ≡ of_kind k → j ≡ k
evaluated_kind d {j} {k} e = by (comparable (kind_of_type d)) e
  where
    by : (p : Bool) → cond p (of_kind j) (fault 14) ≡ of_kind k → j ≡ k
    by true i = cc
    by false i = cc

-- by the rules, and good
record Answered (t : Table) (b : List ℕ) (n : ℕ) (k : Kind) (a : Answer) : Type 0 where
  gives : Gives t b n a
  good : Good t k a

-- Node n has the answer a and no other; it has it if the typing gave it a kind.
record Determined (t : Table) (b : List ℕ) (k : ℕ → Kind) (n : ℕ) (a : Answer) : Type 0 where
  only : (x : Answer) → Gives t b n x → x ≡ a
  answered : comparable (k n) ≡ true → Answered t b n (k n) a
  fit : finding t b k n (shape t b n) ≡ of_kind (k n)

module _ (t : Table) (b : List ℕ) (v : Literals t) (k : ℕ → Kind) (f g : ℕ → Answer) where
  -- f is right of a child, g of a constant
  abbrev Child : ℕ → Type 0
  Child m = Determined t b k m (f m)

  abbrev Known : ℕ → Type 0
  Known c = Determined t b k c (g c)

  -- there is no other answer
  only_one : {n : ℕ} {a : Answer} → Gives t b n a → needs t Child Known n (shape t b n) → a ≡ answer_in t f g n (shape t b n)
  only_one (an_integer_literal e) h = rw e
  only_one (a_logical_literal e) h = rw e
  only_one (a_binary_literal e) h = rw e
  only_one (a_string_literal e) h = rw e
  only_one (a_question e) h = rw e
  only_one (rule.an_item e) h = rw e
  only_one (a_name e x) h = rw e ((rw e at h).only _ x)
  only_one (a_sign {o} e x u) h = rw e (ap (applied o) ((rw e at h).only _ x))
  only_one (an_operator {o} e x y u) h = rw e (ap₂ (combined o) ((rw e at h).0.only _ x) ((rw e at h).1.only _ y))
  only_one (an_interval {o} {p} e x y z u w) h =
      let i = rw e at h in
      let q = i.0.only _ x in
      let r = i.1.only _ y in
      let s = i.2.only _ z in
      rw e (rw (q, r, s))
  only_one (a_constant {d} e x u) h = rw e (holds_held u ∙ ap (held d) ((rw e at h).only _ x))
  only_one (an_unknown_boolean e x) h = rw e (ap (held BOOLEAN) ((rw e at h).only _ x))

  given_by : (n : ℕ) {j : Kind} {a : Answer} → j ≡ k n → Gives t b n a → Good t j a → Answered t b n (k n) a
  given_by n e x h = record { gives = x; good = recast e h }

  -- and there is this one
  one :
      (n : ℕ) (s : Shape) → shape t b n ≡ s → Decoded t t b n s → finding t b k n s ≡ of_kind (k n) → needs t Child Known n s →
      comparable (k n) ≡ true → Answered t b n (k n) (answer_in t f g n s)
  one n (integer_literal w) e o i h c =
      let q : integers ≡ k n = cc in
      given_by n q (an_integer_literal e) (good_integer (rw o.1 (v.small n o.0)))
  one n (logical_literal l) e o i h c = let q : logicals ≡ k n = cc in given_by n q (a_logical_literal e) good_logical
  one n (binary_literal s) e o i h c =
      let q : binaries ≡ k n = cc in
      given_by n q (a_binary_literal e) (good_binary (rw o.1 (v.some_bits n o.0)) (rw o.1 (v.few_bits n o.0)))
  one n (string_literal s) e o i h c =
      let q : strings ≡ k n = cc in
      given_by n q (a_string_literal e) (good_string (rw o.1 (v.few_bytes n o.0.0 o.0.1)))
  one n question e o i h c = let q : undetermined ≡ k n = cc in given_by n q (a_question e) good-?
  one n (shapes.item m) e o i h c = given_by n (cc) (rule.an_item e) (good_item o refl)
  one n (name d) e o i h c =
      let u : kind_of_type (declared_type t b d) ≡ k d = (fits_kind (comparable (common (kind_of_type (declared_type t b d)) (k (last d)))) (rw (constant_shape t b d o) at h.fit)).1 in
      let q : k d ≡ k n = sym u ∙ evaluated_kind (declared_type t b d) i in
      let m = h.answered (ap comparable q ∙ c) in
      given_by n q (a_name e m.gives) m.good
  one n (unary s) e o i h c =
      let w = fits_kind (takes_one s (k (last n))) i in
      let m = h.answered (takes_one_comparable s (k (last n)) w.0) in
      let u = good_of m.good in
      given_by n w.1 (a_sign e m.gives (record { one_kind = k (last n); taken = w.0; first = u; second = u })) (applied_good s w.0 m.good)
  one n (operator s) e o i h c =
      let j = common (k (left t n)) (k (last n)) in
      let w = fits_kind (takes s j) i in
      let m = common_good (k (left t n)) (k (last n)) (takes_comparable s j w.0) (λ r. (h.0.answered r).good) (λ r. (h.1.answered r).good) in
      given_by n w.1
      (an_operator e (h.0.answered m.left).gives (h.1.answered m.right).gives
      (record { one_kind = j; taken = w.0; first = good_of m.first; second = good_of m.second }))
      (combined_good s m.first m.second)
  one n (interval s p) e o i h c =
      let j = common (k (low t n)) (k (middle t n)) in
      let l = common (k (middle t n)) (k (last n)) in
      let w = fits_kind (takes (relation s) j && takes (relation p) l) i in
      let x : comparable j ≡ true = and_fst (comparable j) (comparable l) w.0 in
      let y : comparable l ≡ true = and_snd (comparable j) (comparable l) w.0 in
      let m = common_good (k (low t n)) (k (middle t n)) x (λ r. (h.0.answered r).good) (λ r. (h.1.answered r).good) in
      let q = common_good (k (middle t n)) (k (last n)) y (λ r. (h.1.answered r).good) (λ r. (h.2.answered r).good) in
      given_by n w.1
      (an_interval e (h.0.answered m.left).gives (h.1.answered m.right).gives (h.2.answered q.right).gives
      (record { one_kind = j; taken = x; first = good_of m.first; second = good_of m.second })
      (record { one_kind = l; taken = y; first = good_of q.first; second = good_of q.second }))
      (between_good s p m.first m.second q.first q.second)
  one n interval_operator e o i h c =
      let q : untyped ≡ k n = cc in
      absurd (false≢true (ap comparable q ∙ c))
  one n (type d) e o i h c =
      let q : untyped ≡ k n = evaluated_kind d i in
      absurd (false≢true (ap comparable q ∙ c))
  one n (constant d) e o i h c =
      let w = fits_kind (comparable (common (kind_of_type d) (k (last n)))) i in
      let m = declared_good d (k (last n)) w.0 (λ r. (h.answered r).good) in
      let r = held_good d m.left m.first in
      given_by n w.1 (by (h.answered m.right).gives r.kept) r.good
    where
      by : {x a : Answer} → Gives t b (last n) x → Kept t d x a → Gives t b n a
      by x (itself u) = a_constant e x u
      by x (unknown u) = an_unknown_boolean (e ∙ ap constant u) x
  one n unevaluated e o i h c = absurd (let z : ◌≡◌ {A = ℕ} 0 1 = cc in omega arith)

  step :
      (n : ℕ) → finding t b k n (shape t b n) ≡ of_kind (k n) → needs t Child Known n (shape t b n) →
      Determined t b k n (answer_in t f g n (shape t b n))
  step n i h =
      record { only = λ a x. only_one x h; answered = λ c. one n (shape t b n) refl (decoded t b n) i h c; fit = i }

-- ---- the nodes of one constant

-- from s up to n
abbrev Among : ℕ → ℕ → ℕ → Type 0
Among s n c = (s ≤ c) × (c < n)

module _ (t : Table) (b : List ℕ) (v : Literals t) (k : ℕ → Kind) (Q : ℕ → Type 0) (g : ℕ → Answer) (right : (c : ℕ) → Q c → Determined t b k c (g c)) where
  abbrev Sound : List Answer → ℕ → ℕ → Type 0
  Sound xs s n = (m : ℕ) → Among s n m → Determined t b k m (answer_at xs m)

  stored :
      (s n : ℕ) (xs : List Answer) (a : Answer) → n < length xs → Determined t b k n a → Sound xs s n → Sound (set xs n a) s (suc n)
  stored s n xs a l h old m p = by (ℕ_discrete m n)
    where
      by : Dec (m ≡ n) → Determined t b k m (answer_at (set xs n a) m)
      by (yes e) = rw (e, get_or-set_same xs n a indeterminate l) h
      by (no d) = rw (get_or-set_other xs n m a indeterminate d) (old m (p.0, omega (arith, p.1)))

  run_sound :
      (s e n j : ℕ) (xs : List Answer) → n + j ≡ e → e ≤ length xs →
      ((m : ℕ) → n ≤ m → m < e → finding t b k m (shape t b m) ≡ of_kind (k m)) →
      ((m : ℕ) → n ≤ m → m < e → needs t (Among s m) Q m (shape t b m)) →
      Sound xs s n → Sound (run_in t t b g (span n j) xs) s e
  unfolding run_in span
  run_sound s e n zero xs i l f h old = λ m p. old m (p.0, omega (arith, p.1))
  run_sound s e n (suc j) xs i l f h old =
      let a = answer_in t (answer_at xs) g n (shape t b n) in
      run_sound s e (suc n) j (set xs n a) (omega arith) (rw length-set l) (λ m c. f m (omega arith)) (λ m c. h m (omega arith))
      (stored s n xs a (omega arith)
      (step t b v k (answer_at xs) g n (f n (omega arith) (omega arith)) (needs_map t _ _ _ _ n (shape t b n) old right (h n (omega arith) (omega arith)))) old)

-- what a node of a constant goes by stands before it among the constant's nodes, or is a constant of Q
needs_passed :
    (t : Table) (b : List ℕ) → Formed t → (Q : ℕ → Type 0) (d m : ℕ) → m < count t → first t d ≤ first t m →
    ((c : ℕ) → kind t c ≡ node.constant → shape t b m ≡ name c → Q c) → needs t (Among (first t d) m) Q m (shape t b m)
needs_passed t b f Q d m l w h = by (shape t b m) refl (decoded t b m)
  where
    under : (c : ℕ) → Below t m c → Among (first t d) m c
    under c q = (omega (arith, q.from), q.under)

    by : (s : Shape) → shape t b m ≡ s → Decoded t t b m s → needs t (Among (first t d) m) Q m s
    by (integer_literal z) e o = tt
    by (logical_literal z) e o = tt
    by (binary_literal z) e o = tt
    by (string_literal z) e o = tt
    by question e o = tt
    by (shapes.item z) e o = tt
    by (name c) e o = h c o e
    by (unary z) e o = under (last m) (last_below t f m l o)
    by (operator z) e o = let q = left_below t f m l o in (under (left t m) q.0, under (last m) q.1)
    by (interval z y) e o =
        let q = five_below t f m l o in
        (under (low t m) q.low_below, under (middle t m) q.middle_below, under (last m) q.high_below)
    by interval_operator e o = tt
    by (type z) e o = tt
    by (constant z) e o = under (last m) (value_below t f m l o.0)
    by unevaluated e o = tt

-- ---- all constants

module _ (t : Table) (b : List ℕ) (f : Formed t) (v : Literals t) (k : ℕ → Kind)
    (fits : (n : ℕ) → Constant t n → Fits t b k n) where
  -- ONE CONSTANT, from the answers of those that it needs
  value_determined :
      (Q : ℕ → Type 0) (g : ℕ → Answer) → ((c : ℕ) → Q c → Determined t b k c (g c)) →
      (d : ℕ) → d < count t → kind t d ≡ node.constant → ((c : ℕ) → Needs t b d c → Q c) → Determined t b k d (value t b g d)
  value_determined Q g right d l e passed =
      run_sound t b v k Q g right (first t d) (suc d) (first t d) (size t d) (replicate (suc d) indeterminate) (omega (arith, z)) (omega (arith, r))
      (λ m lo hi. fits m (constant_of t f m (record { root = d; known = l; is_constant = e; from = lo; upto = omega arith })))
      (λ m lo hi. needs_passed t b f Q d m (omega arith) (whole m lo (ℕ_discrete m d) (omega arith)) (λ c i n. passed c (used m lo (omega arith) c i n)))
      (λ m p. absurd (omega (arith, p.0, p.1))) d (omega (arith, y), omega arith)
    where
      z : size t d ≤ d + 1
      z = f.inside d l

      y : 1 ≤ size t d
      y = f.some d l

      r : length (replicate (suc d) indeterminate) ≡ suc d
      r = length-replicate _ _

      used : (m : ℕ) → first t d ≤ m → m ≤ d → (c : ℕ) → kind t c ≡ node.constant → shape t b m ≡ name c → Needs t b d c
      used m lo hi c i n =
          record { is_constant = i; reached = direct (record { node = m; owned = constant_owner t f d m l e lo hi; from = lo; names = n }) }

      whole : (m : ℕ) → first t d ≤ m → Dec (m ≡ d) → m ≤ d → first t d ≤ first t m
      whole m lo (yes q) hi = rw q (omega arith)
      whole m lo (no q) hi = (in_constant t f d m l e lo (omega arith)).whole

  -- the constants of a list that is sorted by needs, one after the other
  abbrev Right : List Answer → List ℕ → Type 0
  Right known ds = (c : ℕ) → Memᴰ c ds → Determined t b k c (answer_at known c)

  one_more :
      (passed : List ℕ) (d : ℕ) (known : List Answer) → count t ≤ length known → d < count t → kind t d ≡ node.constant →
      ((c : ℕ) → Needs t b d c → Memᴰ c passed) → Right known passed → Right (set known d (value t b (answer_at known) d)) (d ∷ passed)
  one_more passed d known x l e needed old c p = by (ℕ_discrete c d) (Memᴰ.cases_cons p)
    where
      a : Answer
      a = value t b (answer_at known) d

      by : Dec (c ≡ d) → (c ≡ d) ⊎ Memᴰ c passed → Determined t b k c (answer_at (set known d a) c)
      by (yes q) m =
          rw (q, get_or-set_same known d a indeterminate (omega arith)) (value_determined (λ c. Memᴰ c passed) (answer_at known) old d l e needed)
      by (no q) (inl m) = absurd (q m)
      by (no q) (inr m) = rw (get_or-set_other known d c a indeterminate q) (old c m)

  all_right :
      {passed ds : List ℕ} (known : List Answer) → count t ≤ length known → Sorted (Needs t b) passed ds →
      ((c : ℕ) → Memᴰ c ds → (c < count t) × (kind t c ≡ node.constant)) → Right known passed →
      (c : ℕ) → Memᴰ c passed ⊎ Memᴰ c ds → Determined t b k c (answer_at (evaluate t b ds known) c)
  unfolding evaluate
  all_right known x done are old c (inl h) = old c h
  all_right known x done are old c (inr h) = absurd (Memᴰ.not-nil h)
  all_right known x (next {passed} {ds} {d} needed more) are old c h =
      let is = are d (Memᴰ.head refl) in
      all_right (set known d (value t b (answer_at known) d)) (rw length-set x) more (λ n m. are n (Memᴰ.tail m))
      (one_more passed d known x is.0 is.1 needed old) c (by h)
    where
      by : Memᴰ c passed ⊎ Memᴰ c (d ∷ ds) → Memᴰ c (d ∷ passed) ⊎ Memᴰ c ds
      by (inl m) = inl (Memᴰ.tail m)
      by (inr m) = cases (Memᴰ.cases_cons m)
        where
          cases : (c ≡ d) ⊎ Memᴰ c ds → Memᴰ c (d ∷ passed) ⊎ Memᴰ c ds
          cases (inl q) = inl (Memᴰ.head q)
          cases (inr m') = inr m'

-- ---- the theorem

-- what the rules give a constant is what its type allows (`Holds`)
clash : {A : Type 0} → ◌≡◌ {A = ℕ} 0 1 → A
clash z = absurd (omega arith)

constant_holds : (t : Table) (b : List ℕ) {c : ℕ} {a : Answer} (d : Declared) → Gives t b c a → shape t b c ≡ constant d → Holds t d a
constant_holds t b d (an_integer_literal e) i = clash (cc)
constant_holds t b d (a_logical_literal e) i = clash (cc)
constant_holds t b d (a_binary_literal e) i = clash (cc)
constant_holds t b d (a_string_literal e) i = clash (cc)
constant_holds t b d (a_question e) i = clash (cc)
constant_holds t b d (rule.an_item e) i = clash (cc)
constant_holds t b d (a_name e x) i = clash (cc)
constant_holds t b d (a_sign e x u) i = clash (cc)
constant_holds t b d (an_operator e x y u) i = clash (cc)
constant_holds t b d (an_interval e x y z u w) i = clash (cc)
constant_holds t b d (a_constant {d = j} {a} e x u) i = let q : j ≡ d = cc in subst (λ (d : Declared). Holds t d a) q u
constant_holds t b d (an_unknown_boolean e x) i = an_end unknown_boolean_end

-- whatever the list of answers holds before
pub evaluate_exact :
    (t : Table) (b : List ℕ) → Formed t → Literals t → (ks : List Kind) → typing t b ≡ typed ks → (ds : List ℕ) → Order t b ds →
    (known : List Answer) → count t ≤ length known → (c : ℕ) → c < count t → kind t c ≡ node.constant →
    Exactly t b c (answer_at (evaluate t b ds known) c)
evaluate_exact t b f v ks e ds o known x c l g =
    let s =
    all_right t b f v (kind_at ks) (typing_fits t b f ks e) known x o.sorted o.among (λ m h. absurd (Memᴰ.not-nil h)) c
    (inr (o.complete c l g))
    in
    let d = declared_type t b c in
    let j = common (kind_of_type d) (kind_at ks (last c)) in
    let i : shape t b c ≡ constant d = constant_shape t b c g in
    let w = fits_kind (comparable j) {k = kind_at ks c} (rw i at s.fit) in
    let m = s.answered (ap comparable (sym w.1) ∙ common_typed d (kind_at ks (last c)) w.0) in
    record { only = λ a. (s.only a, λ q. rw q m.gives); holds = constant_holds t b d m.gives i }

pub exactness :
    (t : Table) (b : List ℕ) → Formed t → Literals t → (ks : List Kind) → typing t b ≡ typed ks → (ds : List ℕ) → Order t b ds →
    (c : ℕ) → c < count t → kind t c ≡ node.constant → Exactly t b c (answer_at (answers t b ds) c)
unfolding answers
exactness t b f v ks e ds o =
    evaluate_exact t b f v ks e ds o (replicate (count t) indeterminate)
    (let r = length-replicate {A = Answer} (count t) indeterminate in omega arith)

-- two orders give the same answers
pub any_order :
    (t : Table) (b : List ℕ) → Formed t → Literals t → (ks : List Kind) → typing t b ≡ typed ks → (ds es : List ℕ) → Order t b ds → Order t b es →
    (known other : List Answer) → count t ≤ length known → count t ≤ length other → (c : ℕ) → c < count t → kind t c ≡ node.constant →
    answer_at (evaluate t b ds known) c ≡ answer_at (evaluate t b es other) c
any_order t b f v ks e ds es o p known other x y c l g =
    ((evaluate_exact t b f v ks e es p other y c l g).only _).0 (((evaluate_exact t b f v ks e ds o known x c l g).only _).1 refl)

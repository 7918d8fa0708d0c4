-- Where stage 9 passes, a scope holds a name once: two meanings arise from inherited attributes and from items of several enumerations alone.
use mathlib.Core.Path.{◌≡◌, refl, sym, ap, ◌∙◌}
use mathlib.Core.Logic.{◌≢◌, ◌⊎◌, inl, inr, ⊎_elim}
use mathlib.Core.Bool.{Bool, true, false, cond, ◌&&◌, ◌||◌}
use mathlib.Core.List.{List, [], ◌∷◌, Memᴰ}
use Prim.Native.Nat.{ℕ, ◌≤◌, ◌<◌}
use native.Mathlib.Omega.{arith}
use borrow.Author.Tests.{eqb-true, eq-eqb, ne_eqb}
use lib.Dec.{eqb}
use Rattle.express.specs.Syntax.NodeKind.{name, constant, type, entity, attribute_name, derived_attribute, rule, enumeration_item, qualified_item, labelled}
use Rattle.relations.specs.Select.{span, any, nearest}
use Rattle.express.specs.Syntax.Tree.{Table, count, kind, role, symbol, nodes, is, is_declaration, is_attribute, is_scope_member, owner, schema_of}
use Rattle.express.specs.Names.Scope.{Meaning, none, one, several, meaning, spelled, declarations, declarations_of}
use Rattle.express.specs.Names.Scope.{is_use, items, own, inherited, items_of, candidates, type_meant, item_meant, means}
use Rattle.express.specs.Names.Fault.{sort, scope, alike, repeated}
use Rattle.express.specs.Names.Names.{Passes}
use Rattle.relations.proofs.Select.{and_fst, and_snd, and_both, or_cases, le_or, mem_upto, upto_mem, keep_mem, mem_any}
use Rattle.express.proofs.Names.Meaning.{Differing, meaning_several, spelled_ascending}

-- what declares, by kind
module _ (t : Table) (k : ℕ) where
  pub sort_declaration : is_declaration t k ≡ true → sort t k ≡ 2
  unfolding sort
  sort_declaration h =
      ⊎_elim (λ a. ⊎_elim (λ b. rw (eqb-true (kind t k) constant b)) (λ b. rw (eqb-true (kind t k) type b)) (or_cases (is t constant k) (is t type k) a))
      (λ a. rw (eqb-true (kind t k) entity a)) (or_cases (is t constant k || is t type k) (is t entity k) h)

  pub sort_item : is t enumeration_item k ≡ true → sort t k ≡ 3
  unfolding sort
  sort_item h = rw (eqb-true (kind t k) enumeration_item h)

  pub sort_member : is_scope_member t k ≡ true → sort t k ≡ 4
  unfolding sort
  sort_member h =
      ⊎_elim
      (λ a. ⊎_elim (λ b. rw (eqb-true (kind t k) attribute_name b)) (λ b. rw (eqb-true (kind t k) derived_attribute b)) (or_cases (is t attribute_name k) (is t derived_attribute k) a))
      (λ a. rw (eqb-true (kind t k) rule (and_fst (is t rule k) (eqb (role t k) labelled) a), eqb-true (role t k) labelled (and_snd (is t rule k) (eqb (role t k) labelled) a)))
      (or_cases (is_attribute t k) (is t rule k && eqb (role t k) labelled) h)

  pub scope_declaration : sort t k ≡ 2 → scope t k ≡ schema_of t k
  unfolding scope
  scope_declaration e = rw e

  pub scope_item : sort t k ≡ 3 → scope t k ≡ owner t k
  unfolding scope
  scope_item e = rw e

  pub scope_member : sort t k ≡ 4 → scope t k ≡ owner t k
  unfolding scope
  scope_member e = rw e

pub is_alike : (t : Table) (n k : ℕ) → symbol t k ≡ symbol t n → sort t k ≡ sort t n → scope t k ≡ scope t n → alike t n k ≡ true
is_alike t n k a b c =
    and_both (eqb (symbol t k) (symbol t n) && eqb (sort t k) (sort t n)) (eqb (scope t k) (scope t n))
    (and_both (eqb (symbol t k) (symbol t n)) (eqb (sort t k) (sort t n)) (eq-eqb _ _ a) (eq-eqb _ _ b)) (eq-eqb _ _ c)

-- no two of one sort and one symbol in one scope
module _ (t : Table) (stage9 : Passes (nodes t) (repeated t)) where
  pub once : (x y : ℕ) → x < y → y < count t → sort t y ≢ 0 → sort t x ≡ sort t y → scope t x ≡ scope t y → symbol t x ≡ symbol t y → ⊥
  unfolding repeated
  once x y h b d e f g =
      let a = is_alike t y x g e f in
      let c : any (alike t y) (span 0 y) ≡ true = mem_any (alike t y) (span 0 y) (mem_upto y x h) a in
      let z : (repeated t y).number ≡ 9 = rw (ne_eqb (sort t y) 0 d, c) in
      let w = stage9 y (mem_upto (count t) y b) in
      omega arith

  -- of the nodes with a symbol that pass a test, there are not several, if the test fixes their sort and scope
  spelled_once : (s : ℕ) (p : ℕ → Bool) (c m : ℕ) → c ≢ 0 → ((k : ℕ) → p k ≡ true → (sort t k ≡ c) × (scope t k ≡ m)) → meaning (spelled t s p) ≢ several
  spelled_once s p c m nz fixed e =
      let D = (meaning_several (spelled t s p) (spelled_ascending t s p)).0 e in
      ⊎_elim (λ (l : D.second ≤ D.first). pair D.second D.first (le_or D.first D.second) l D.second_in D.first_in (λ q. D.differ (sym q)))
      (λ (l : D.first < D.second). clash D.first D.second l D.first_in D.second_in) (le_or D.second D.first)
    where
      of_spelled : (x : ℕ) → Memᴰ x (spelled t s p) → (x < count t) × (symbol t x ≡ s) × (sort t x ≡ c) × (scope t x ≡ m)
      of_spelled x i =
          let r = keep_mem (λ k. eqb (symbol t k) s && p k) (nodes t) i in
          let u = fixed x (and_snd (eqb (symbol t x) s) (p x) r.1) in
          (upto_mem (count t) x r.0, eqb-true (symbol t x) s (and_fst (eqb (symbol t x) s) (p x) r.1), u.0, u.1)

      clash : (x y : ℕ) → x < y → Memᴰ x (spelled t s p) → Memᴰ y (spelled t s p) → ⊥
      clash x y l i j =
          let u = of_spelled x i in
          let v = of_spelled y j in
          once x y l v.0 (λ (q : sort t y ≡ 0). nz (sym v.2 ∙ q)) (u.2 ∙ sym v.2) (u.3 ∙ sym v.3) (u.1 ∙ sym v.1)

      pair : (x y : ℕ) → (y ≤ x) ⊎ (x < y) → x ≤ y → Memᴰ x (spelled t s p) → Memᴰ y (spelled t s p) → x ≢ y → ⊥
      pair x y (inl g) l i j d = d (omega arith)
      pair x y (inr g) l i j d = clash x y g i j

  -- the schema's constants, types and entities
  pub declarations_once : (h s : ℕ) → meaning (declarations t h s) ≢ several
  unfolding declarations
  declarations_once h s =
      spelled_once s (λ k. is_declaration t k && eqb (schema_of t k) h) 2 h (λ (e : 2 ≡ 0). omega arith)
      (λ k i. let e = sort_declaration t k (and_fst (is_declaration t k) (eqb (schema_of t k) h) i) in
      (e, scope_declaration t k e ∙ eqb-true _ _ (and_snd (is_declaration t k) (eqb (schema_of t k) h) i)))

  -- own attributes and labels
  pub own_once : (d s : ℕ) → meaning (own t d s) ≢ several
  unfolding own
  own_once d s =
      spelled_once s (λ k. is_scope_member t k && eqb (owner t k) d) 4 d (λ (e : 4 ≡ 0). omega arith)
      (λ k h. let e = sort_member t k (and_fst (is_scope_member t k) (eqb (owner t k) d) h) in
      (e, scope_member t k e ∙ eqb-true _ _ (and_snd (is_scope_member t k) (eqb (owner t k) d) h)))

  -- the items of one enumeration
  pub item_once : (y s : ℕ) → meaning (items_of t y s) ≢ several
  unfolding items_of
  item_once y s =
      spelled_once s (λ k. is t enumeration_item k && eqb (owner t k) y) 3 y (λ (e : 3 ≡ 0). omega arith)
      (λ k h. let e = sort_item t k (and_fst (is t enumeration_item k) (eqb (owner t k) y) h) in
      (e, scope_item t k e ∙ eqb-true _ _ (and_snd (is t enumeration_item k) (eqb (owner t k) y) h)))

  -- two meanings: of a name in an expression, with no own meaning; two inherited attributes that differ, or none and no declaration, and two items
  pub record Several (n : ℕ) : Type 0 where
    pub in_an_expression : is_use t n ≡ true
    pub no_own : own t (owner t n) (symbol t n) ≡ []
    pub from :
        Differing (inherited t (owner t n) (symbol t n))
        ⊎ ((inherited t (owner t n) (symbol t n) ≡ []) × (declarations_of t n ≡ []) × Differing (items t (schema_of t n) (symbol t n)))

  candidates_several : (n : ℕ) → is_use t n ≡ true → meaning (candidates t n (symbol t n)) ≡ several → Several n
  unfolding candidates inherited items
  candidates_several n h e = by (own t (owner t n) (symbol t n)) (inherited t (owner t n) (symbol t n)) (declarations_of t n) refl refl refl e
    where
      by : (os hs ds : List ℕ) → own t (owner t n) (symbol t n) ≡ os → inherited t (owner t n) (symbol t n) ≡ hs → declarations_of t n ≡ ds
          → meaning (nearest os (nearest hs (nearest ds (items t (schema_of t n) (symbol t n))))) ≡ several → Several n
      by (o ∷ os) hs ds a b c e = absurd (own_once (owner t n) (symbol t n) (ap meaning a ∙ e))
      by [] (h₁ ∷ hs) ds a b c e = record { in_an_expression = h; no_own = a; from = inl ((meaning_several _ (spelled_ascending t _ _)).0 (ap meaning b ∙ e)) }
      by [] [] (d ∷ ds) a b c e = absurd (declarations_once (schema_of t n) (symbol t n) (ap meaning c ∙ e))
      by [] [] [] a b c e = record { in_an_expression = h; no_own = a; from = inr (b, c, (meaning_several _ (spelled_ascending t _ _)).0 e) }

  item_meant_once : (s : ℕ) (m : Meaning) → item_meant t s m ≢ several
  unfolding item_meant
  item_meant_once s none e = (let z : ◌≡◌ {A = ℕ} 0 1 = cc in absurd (omega arith))
  item_meant_once s several e = (let z : ◌≡◌ {A = ℕ} 0 1 = cc in absurd (omega arith))
  item_meant_once s (one y) e = item_once y s e

  pub several_only : (n : ℕ) → means t n ≡ several → Several n
  unfolding means
  several_only n e = by (is_use t n) (is t name n) (is t qualified_item n) refl e
    where
      by : (a b c : Bool) → is_use t n ≡ a
          → cond a (meaning (candidates t n (symbol t n))) (cond b (meaning (declarations_of t n)) (cond c (item_meant t (symbol t n) (type_meant t n)) none)) ≡ several → Several n
      by true b c h e = candidates_several n h e
      by false true c h e = absurd (declarations_once (schema_of t n) (symbol t n) e)
      by false false true h e = absurd (item_meant_once (symbol t n) (type_meant t n) e)
      by false false false h e = let z : ◌≡◌ {A = ℕ} 0 1 = cc in absurd (omega arith)

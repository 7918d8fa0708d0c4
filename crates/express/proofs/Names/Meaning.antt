-- The candidates and the cycles, for the reader: what is in the lists that the definitions compute.
use mathlib.Core.Path.{◌≡◌, refl, sym, ap, ◌∙◌}
use mathlib.Core.Logic.{◌↔◌, ◌≢◌}
use mathlib.Core.Bool.{Bool, true, false, cond, ◌&&◌}
use mathlib.Core.List.Memᴰ
use mathlib.Core.List.{List, [], ◌∷◌, map, Memᴰ}
use Prim.Native.Nat.{ℕ, ◌+◌, ◌-◌, ◌≤◌, ◌<◌}
use native.Mathlib.Omega.{arith}
use borrow.Author.Tests.{eqb-true, eq-eqb, ltb-true}
use lib.Dec.{eqb, ltb}
use Rattle.express.specs.Syntax.NodeKind.{name, qualified_item, enumeration_item}
use Rattle.relations.specs.Select.{span, first_from, keep, nearest, Ascending, nil, cons}
use Rattle.express.specs.Syntax.Tree.{Table, count, symbol, place, nodes, is, is_declaration, is_attribute, is_scope_member, owner, schema_of}
use Rattle.relations.specs.Reach.{Reaches, Edge, edge, Joins, reaches}
use Rattle.express.specs.Names.Scope.{Meaning, none, one, several, meaning, spelled, declarations, declarations_of, items}
use Rattle.express.specs.Names.Scope.{items_of, item_meant, own, inherited, candidates, is_use, type_meant, means, edges, super_edges}
use Rattle.express.specs.Names.Fault.{Fault, fault, fine, cyclic}
use Rattle.relations.proofs.Select.{and_fst, and_snd, and_both, mem_upto, upto_mem, keep_mem, mem_keep}
use Rattle.relations.proofs.Select.{flat_mem, mem_flat, keep_first, ascending_from, ascending_span, ascending_keep, ascending_nearest}
use Rattle.relations.proofs.Reach.{reaches_iff}

module _ (t : Table) where
  -- node k is spelled s, and P holds of it
  pub record Candidate (s : ℕ) (P : ℕ → Type 0) (k : ℕ) : Type 0 where
    pub within : k < count t
    pub spelling : symbol t k ≡ s
    pub suits : P k

  candidate_iff : (s : ℕ) (p : ℕ → Bool) (P : ℕ → Type 0) → ((k : ℕ) → (p k ≡ true) ↔ P k) → (k : ℕ) → Memᴰ k (spelled t s p) ↔ Candidate s P k
  candidate_iff s p P iff k = (
    λ m.
        let r = keep_mem (λ k. eqb (symbol t k) s && p k) (nodes t) m in
        record { within = upto_mem (count t) k r.0; spelling = eqb-true (symbol t k) s (and_fst (eqb (symbol t k) s) (p k) r.1); suits = (iff k).0 (and_snd (eqb (symbol t k) s) (p k) r.1) },
    λ c.
        mem_keep (λ k. eqb (symbol t k) s && p k) (nodes t) (mem_upto (count t) k c.within)
        (and_both (eqb (symbol t k) s) (p k) (eq-eqb (symbol t k) s c.spelling) ((iff k).1 c.suits)),
  )

  -- a test of a node, and one of numbers
  same_iff : (b : Bool) (x y : ℕ) → (b && eqb x y ≡ true) ↔ ((b ≡ true) × (x ≡ y))
  same_iff b x y = (λ e. (and_fst b (eqb x y) e, eqb-true x y (and_snd b (eqb x y) e)), λ r. and_both b (eqb x y) r.0 (eq-eqb x y r.1))

  pub declarations_iff : (h s k : ℕ) → Memᴰ k (declarations t h s) ↔ Candidate s (λ k. (is_declaration t k ≡ true) × (schema_of t k ≡ h)) k
  unfolding declarations
  declarations_iff h s k = candidate_iff s _ _ (λ k. same_iff (is_declaration t k) (schema_of t k) h) k

  pub items_iff : (h s k : ℕ) → Memᴰ k (items t h s) ↔ Candidate s (λ k. (is t enumeration_item k ≡ true) × (schema_of t k ≡ h)) k
  unfolding items
  items_iff h s k = candidate_iff s _ _ (λ k. same_iff (is t enumeration_item k) (schema_of t k) h) k

  pub items_of_iff : (y s k : ℕ) → Memᴰ k (items_of t y s) ↔ Candidate s (λ k. (is t enumeration_item k ≡ true) × (owner t k ≡ y)) k
  unfolding items_of
  items_of_iff y s k = candidate_iff s _ _ (λ k. same_iff (is t enumeration_item k) (owner t k) y) k

  pub own_iff : (d s k : ℕ) → Memᴰ k (own t d s) ↔ Candidate s (λ k. (is_scope_member t k ≡ true) × (owner t k ≡ d)) k
  unfolding own
  own_iff d s k = candidate_iff s _ _ (λ k. same_iff (is_scope_member t k) (owner t k) d) k

  -- an attribute of an entity that is reached over supertypes
  pub inherited_iff : (d s k : ℕ) → Memᴰ k (inherited t d s) ↔ Candidate s (λ k. (is_attribute t k ≡ true) × Reaches (Joins (super_edges t)) d (owner t k)) k
  unfolding inherited
  inherited_iff d s k =
      candidate_iff s _ _
      (λ k. (
        λ e. (
          and_fst (is_attribute t k) (reaches (super_edges t) d (owner t k)) e,
          (reaches_iff (super_edges t) d (owner t k)).0 (and_snd (is_attribute t k) (reaches (super_edges t) d (owner t k)) e),
        ),
        λ r. and_both (is_attribute t k) (reaches (super_edges t) d (owner t k)) r.0 ((reaches_iff (super_edges t) d (owner t k)).1 r.1),
      )) k

  -- 13 is given for the nodes that pass the test and reach themselves
  pub cyclic_iff : (p : ℕ → Bool) (es : List Edge) (n : ℕ) → (cyclic t p es n ≡ fault 13 (place t n)) ↔ ((p n ≡ true) × Reaches (Joins es) n n)
  unfolding cyclic
  cyclic_iff p es n = (
    λ e. let h = by (p n && reaches es n n) refl e in (and_fst (p n) (reaches es n n) h, (reaches_iff es n n).0 (and_snd (p n) (reaches es n n) h)),
    λ r. rw (and_both (p n) (reaches es n n) r.0 ((reaches_iff es n n).1 r.1)),
  )
    where
      by : (b : Bool) → p n && reaches es n n ≡ b → cond b (fault 13 (place t n)) fine ≡ fault 13 (place t n) → p n && reaches es n n ≡ true
      by true q e = q
      by false q e = let z : ◌≡◌ {A = ℕ} 0 13 = ap (λ (f : Fault). f.number) e in absurd (omega arith)

  -- where an edge of some names starts: at a declaration in which one of them stands
  pub edge_start : (p : ℕ → Bool) (meant : ℕ → List ℕ) (a b : ℕ) → Joins (edges t p meant) a b → (n : ℕ) × (n < count t) × (p n ≡ true) × (owner t n ≡ a) × Memᴰ b (meant n)
  edge_start p meant a b m =
      let r = flat_mem (λ n. map (edge (owner t n)) (meant n)) (keep p (nodes t)) m in
      let n = r.0 in
      let k = keep_mem p (nodes t) r.1 in
      let l = Memᴰ.of_map (edge (owner t n)) (meant n) r.2 in
      (n, upto_mem (count t) n k.0, k.1, ap (λ (e : Edge). e.from) l.2, Memᴰ.cast (sym (ap (λ (e : Edge). e.to) l.2)) l.1)

  -- and back
  pub edge_made : (p : ℕ → Bool) (meant : ℕ → List ℕ) (n b : ℕ) → n < count t → p n ≡ true → Memᴰ b (meant n) → Joins (edges t p meant) (owner t n) b
  edge_made p meant n b l h m =
      mem_flat (λ k. map (edge (owner t k)) (meant k)) (keep p (nodes t)) (mem_keep p (nodes t) (mem_upto (count t) n l) h) (Memᴰ.map (edge (owner t n)) m)

  -- no 13 where no cycle runs through a node that passes
  pub cyclic_fine : (p : ℕ → Bool) (es : List Edge) (n : ℕ) → ((cyclic t p es n).number ≡ 0) ↔ (p n ≡ true → Reaches (Joins es) n n → ⊥)
  unfolding cyclic
  cyclic_fine p es n = (
    λ z h r. let e : (cyclic t p es n).number ≡ 13 = rw (h, (reaches_iff es n n).1 r) in omega arith,
    λ h. by (p n && reaches es n n) refl h,
  )
    where
      by : (b : Bool) → p n && reaches es n n ≡ b → (p n ≡ true → Reaches (Joins es) n n → ⊥) → (cond b (fault 13 (place t n)) fine).number ≡ 0
      by true q h = absurd (h (and_fst (p n) (reaches es n n) q) ((reaches_iff es n n).0 (and_snd (p n) (reaches es n n) q)))
      by false q h = refl

-- an empty list
pub no_members : (xs : List ℕ) → ((k : ℕ) → Memᴰ k xs → ⊥) → xs ≡ []
no_members [] h = refl
no_members (x ∷ xs) h = absurd (h x (Memᴰ.head refl))

-- ---- the meaning of some candidates, each of which stands in the list once

-- k is the only candidate
pub record Only (xs : List ℕ) (k : ℕ) : Type 0 where
  pub member : Memᴰ k xs
  pub only : (j : ℕ) → Memᴰ j xs → j ≡ k

-- two candidates that differ
pub record Differing (xs : List ℕ) : Type 0 where
  pub first : ℕ
  pub second : ℕ
  pub first_in : Memᴰ first xs
  pub second_in : Memᴰ second xs
  pub differ : first ≢ second

pub meaning_none : (xs : List ℕ) → (meaning xs ≡ none) ↔ ((k : ℕ) → Memᴰ k xs → ⊥)
meaning_none [] = (λ e k m. Memᴰ.not-nil m, λ h. refl)
meaning_none (x ∷ []) = (λ e. let z : ◌≡◌ {A = ℕ} 0 1 = cc in absurd (omega arith), λ h. absurd (h x (Memᴰ.head refl)))
meaning_none (x ∷ y ∷ xs) = (λ e. let z : ◌≡◌ {A = ℕ} 0 1 = cc in absurd (omega arith), λ h. absurd (h x (Memᴰ.head refl)))

-- the first of a list that rises is none of the others
head_differs : {lo x y : ℕ} {ys : List ℕ} → Ascending lo (x ∷ ys) → Memᴰ y ys → x ≢ y
head_differs {x = x} {y = y} (cons a r) m q = let z = ascending_from r y m in omega arith

pub meaning_one : (xs : List ℕ) → Ascending 0 xs → (k : ℕ) → (meaning xs ≡ one k) ↔ Only xs k
meaning_one [] a k = (λ e. let z : ◌≡◌ {A = ℕ} 0 1 = cc in absurd (omega arith), λ o. absurd (Memᴰ.not-nil o.member))
meaning_one (x ∷ []) a k = (
  λ e. let q : x ≡ k = cc in record { member = Memᴰ.head (sym q); only = λ j m. Memᴰ.eq_of_singleton m ∙ q },
  λ o. ap one (o.only x (Memᴰ.head refl)),
)
meaning_one (x ∷ y ∷ xs) a k = (
  λ e. let z : ◌≡◌ {A = ℕ} 0 1 = cc in absurd (omega arith),
  λ o. absurd (head_differs a (Memᴰ.head refl) (o.only x (Memᴰ.head refl) ∙ sym (o.only y (Memᴰ.tail (Memᴰ.head refl))))),
)

pub meaning_several : (xs : List ℕ) → Ascending 0 xs → (meaning xs ≡ several) ↔ Differing xs
meaning_several [] a = (λ e. let z : ◌≡◌ {A = ℕ} 0 1 = cc in absurd (omega arith), λ d. absurd (Memᴰ.not-nil d.first_in))
meaning_several (x ∷ []) a = (
  λ e. let z : ◌≡◌ {A = ℕ} 0 1 = cc in absurd (omega arith),
  λ d. absurd (d.differ (Memᴰ.eq_of_singleton d.first_in ∙ sym (Memᴰ.eq_of_singleton d.second_in))),
)
meaning_several (x ∷ y ∷ xs) a = (
  λ e. record { first = x; second = y; first_in = Memᴰ.head refl; second_in = Memᴰ.tail (Memᴰ.head refl); differ = head_differs a (Memᴰ.head refl) },
  λ d. refl,
)

-- of the nearer of two lists: that of the first, unless it has no candidate
abbrev pub or_else : Meaning → Meaning → Meaning
or_else none m = m
or_else several m = several
or_else (one k) m = one k

pub meaning_nearest : (xs ys : List ℕ) → meaning (nearest xs ys) ≡ or_else (meaning xs) (meaning ys)
meaning_nearest [] ys = refl
meaning_nearest (x ∷ []) ys = refl
meaning_nearest (x ∷ y ∷ xs) ys = refl

-- of numbers that pass a test, by the first that does and the next
abbrev pub first_meaning : (ℕ → Bool) → ℕ → ℕ → Meaning
first_meaning p n k = cond (ltb k n) (cond (ltb (first_from p (k + 1) (n - (k + 1))) n) several (one k)) none

pub meaning_first : (p : ℕ → Bool) (n i : ℕ) → i ≤ n → meaning (keep p (span i (n - i))) ≡ first_meaning p n (first_from p i (n - i))
meaning_first p n i l = rw (keep_first p n i l) (by (ltb k n) refl)
  where
    k : ℕ
    k = first_from p i (n - i)

    more : (b : Bool) (j : ℕ) (js : List ℕ) → meaning (k ∷ cond b (j ∷ js) []) ≡ cond b several (one k)
    more true j js = refl
    more false j js = refl

    by : (b : Bool) → ltb k n ≡ b → meaning (cond b (k ∷ keep p (span (k + 1) (n - (k + 1)))) []) ≡ cond b (cond (ltb (first_from p (k + 1) (n - (k + 1))) n) several (one k)) none
    by true e = let h = ltb-true k n e in rw (keep_first p n (k + 1) (omega arith)) (more (ltb (first_from p (k + 1) (n - (k + 1))) n) _ _)
    by false e = refl

-- ---- the candidates of a node

module _ (t : Table) where
  -- of the nodes that pass a test
  pub meaning_nodes : (p : ℕ → Bool) → meaning (keep p (nodes t)) ≡ first_meaning p (count t) (first_from p 0 (count t))
  meaning_nodes p = let z : count t - 0 ≡ count t = omega arith in rw z at (meaning_first p (count t) 0 (omega arith))

  pub spelled_ascending : (s : ℕ) (p : ℕ → Bool) → Ascending 0 (spelled t s p)
  spelled_ascending s p = ascending_keep (λ k. eqb (symbol t k) s && p k) (ascending_span 0 (count t))

  -- those of any name
  abbrev item_candidates : ℕ → Meaning → List ℕ
  item_candidates s none = []
  item_candidates s several = []
  item_candidates s (one y) = items_of t y s

  unfoldable pub candidates_of : ℕ → List ℕ
  candidates_of n =
      cond (is_use t n) (candidates t n (symbol t n))
      (cond (is t name n) (declarations_of t n) (cond (is t qualified_item n) (item_candidates (symbol t n) (type_meant t n)) []))

  pub means_is : (n : ℕ) → means t n ≡ meaning (candidates_of n)
  unfolding means candidates_of item_meant
  means_is n = by (is_use t n) (is t name n) (is t qualified_item n) (type_meant t n)
    where
      by : (a b c : Bool) (m : Meaning)
          → cond a (meaning (candidates t n (symbol t n))) (cond b (meaning (declarations_of t n)) (cond c (item_meant t (symbol t n) m) none))
          ≡ meaning (cond a (candidates t n (symbol t n)) (cond b (declarations_of t n) (cond c (item_candidates (symbol t n) m) [])))
      by true b c m = refl
      by false true c m = refl
      by false false true none = refl
      by false false true several = refl
      by false false true (one y) = refl
      by false false false m = refl

  pub candidates_ascending : (n : ℕ) → Ascending 0 (candidates_of n)
  unfolding candidates_of candidates own inherited declarations items items_of
  candidates_ascending n = by (is_use t n) (is t name n) (is t qualified_item n) (type_meant t n)
    where
      by : (a b c : Bool) (m : Meaning) → Ascending 0 (cond a (candidates t n (symbol t n)) (cond b (declarations_of t n) (cond c (item_candidates (symbol t n) m) [])))
      by true b c m =
          ascending_nearest _ _ (spelled_ascending _ _)
          (ascending_nearest _ _ (spelled_ascending _ _) (ascending_nearest _ _ (spelled_ascending _ _) (spelled_ascending _ _)))
      by false true c m = spelled_ascending _ _
      by false false true none = nil
      by false false true several = nil
      by false false true (one y) = spelled_ascending _ _
      by false false false m = nil

  -- A NAME MEANS NOTHING where it has no candidate, ONE NODE where that is the only candidate, and SEVERAL where two candidates differ.
  pub means_none : (n : ℕ) → (means t n ≡ none) ↔ ((k : ℕ) → Memᴰ k (candidates_of n) → ⊥)
  means_none n = rw (means_is n) (meaning_none (candidates_of n))

  pub means_one : (n k : ℕ) → (means t n ≡ one k) ↔ Only (candidates_of n) k
  means_one n k = rw (means_is n) (meaning_one (candidates_of n) (candidates_ascending n) k)

  pub means_several : (n : ℕ) → (means t n ≡ several) ↔ Differing (candidates_of n)
  means_several n = rw (means_is n) (meaning_several (candidates_of n) (candidates_ascending n))

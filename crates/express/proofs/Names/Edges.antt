-- The edges between declarations by the bindings of the names in them: once the names of types are in order, those of types and supertypes; and
-- those of constants in any case.
use mathlib.Core.Path.{◌≡◌, refl, sym, ap, ◌∙◌}
use mathlib.Core.Logic.{◌↔◌, ◌≢◌, ◌⊎◌, inl, inr, ⊎_elim}
use mathlib.Core.Bool.{Bool, true, false, cond, ◌&&◌, ◌||◌, false≢true}
use mathlib.Core.List.Memᴰ
use mathlib.Core.List.{List, [], ◌∷◌, Memᴰ}
use Prim.Native.Nat.{ℕ, ◌+◌, ◌<◌}
use native.Mathlib.Omega.{arith}
use borrow.Author.Tests.{eqb-true, ne_eqb}
use lib.Dec.{eqb}
use Rattle.express.specs.Syntax.NodeKind as node
use Rattle.express.specs.Syntax.Tree.{Table, count, kind, role, symbol, place, nodes, is, is_name_in, owner, schema_of, in_constant}
use Rattle.relations.specs.Reach.{Joins}
use Rattle.relations.specs.Select.{nearest}
use Rattle.ebnf.specs.Set.{mem}
use Rattle.express.specs.Syntax.Grammar.{file}
use Rattle.express.specs.Syntax.Syntax.{Read}
use Rattle.express.specs.Names.Scope.{Meaning, none, one, several, meaning, declarations, declarations_of, items, own, inherited, candidates, is_use, means}
use Rattle.express.specs.Names.Scope.{binding_of, binding, edges, super_edges, renaming_edges}
use Rattle.express.specs.Names.Fault.{judged, right, type_name_fault, constants_meant, constant_edges}
use Rattle.express.specs.Names.Names.{Passes}
use Rattle.relations.proofs.Select.{and_fst, and_snd, mem_upto, or_cases, nearest_mem}
use Rattle.express.proofs.Names.Meaning.{edge_start, edge_made, candidates_of, means_one, own_iff, inherited_iff, declarations_iff, items_iff}
use Rattle.express.proofs.Names.Owned.{owner_schema}

-- a name that passes a test, in the declaration x, is bound to y
pub record Bound (t : Table) (p : ℕ → Bool) (x y : ℕ) : Type 0 where
  pub name : ℕ
  pub known : name < count t
  pub passes : p name ≡ true
  pub owned : owner t name ≡ x
  pub bound : binding t name ≡ y + 1

-- a binding is that of the one meaning
pub binding_one : (t : Table) (n y : ℕ) → (binding t n ≡ y + 1) ↔ (means t n ≡ one y)
unfolding binding
binding_one t n y = (by (means t n), λ e. ap binding_of e)
  where
    by : (m : Meaning) → binding_of m ≡ y + 1 → m ≡ one y
    by none e = absurd (omega arith)
    by several e = absurd (omega arith)
    by (one k) e = let q : k ≡ y = omega arith in ap one q

module _ (t : Table) where
  -- edges whose ends are what their names are bound to
  edges_bound :
      (p : ℕ → Bool) (meant : ℕ → List ℕ) → ((n : ℕ) → n < count t → p n ≡ true → (y : ℕ) → Memᴰ y (meant n) ↔ (binding t n ≡ y + 1)) →
      (x y : ℕ) → Joins (edges t p meant) x y ↔ Bound t p x y
  edges_bound p meant same x y = (
    λ e.
        let r = edge_start t p meant x y e in
        record { name = r.0; known = r.1; passes = r.2; owned = r.3; bound = (same r.0 r.1 r.2 y).0 r.4 },
    λ B. rw B.owned at (edge_made t p meant B.name y B.known B.passes ((same B.name B.known B.passes y).1 B.bound)),
  )

  -- constants
  constant_meant : (m : Meaning) (y : ℕ) → Memᴰ y (constants_meant t m) ↔ ((m ≡ one y) × (is t node.constant y ≡ true))
  constant_meant none y = (λ m. absurd (Memᴰ.not-nil m), λ r. let e = r.0 in let z : ◌≡◌ {A = ℕ} 0 1 = cc in absurd (omega arith))
  constant_meant several y = (λ m. absurd (Memᴰ.not-nil m), λ r. let e = r.0 in let z : ◌≡◌ {A = ℕ} 0 1 = cc in absurd (omega arith))
  constant_meant (one k) y = (by (is t node.constant k) refl, λ r. let e = r.0 in let q : k ≡ y = cc in rw (q, r.1) (Memᴰ.head refl))
    where
      by : (b : Bool) → is t node.constant k ≡ b → Memᴰ y (cond b (k ∷ []) []) → (one k ≡ one y) × (is t node.constant y ≡ true)
      by true e m = let q = Memᴰ.eq_of_singleton m in (ap one (sym q), ap (is t node.constant) q ∙ e)
      by false e m = absurd (Memᴰ.not-nil m)

  pub constant_edge_iff :
      (x y : ℕ) → Joins (constant_edges t) x y ↔ (Bound t (λ n. is_use t n && in_constant t n) x y × (is t node.constant y ≡ true))
  unfolding constant_edges
  constant_edge_iff x y = (
    λ e.
        let r = edge_start t (λ n. is_use t n && in_constant t n) (λ n. constants_meant t (means t n)) x y e in
        let c = (constant_meant (means t r.0) y).0 r.4 in
        (record { name = r.0; known = r.1; passes = r.2; owned = r.3; bound = (binding_one t r.0 y).1 c.0 }, c.1),
    λ r.
        let B = r.0 in
        rw B.owned at
        (edge_made t (λ n. is_use t n && in_constant t n) (λ n. constants_meant t (means t n)) B.name y B.known B.passes
        ((constant_meant (means t B.name) y).1 ((binding_one t B.name y).0 B.bound, r.1))),
  )

  -- types and supertypes, where the stage of their names passes
  module _ (types : Passes (nodes t) (type_name_fault t)) where
    pub type_name_bound :
        (n : ℕ) → n < count t → is t node.name n ≡ true → role t n ≢ node.in_expression → (y : ℕ) → Memᴰ y (declarations_of t n) ↔ (binding t n ≡ y + 1)
    unfolding type_name_fault means binding
    type_name_bound n l h r y = by (declarations_of t n) refl fine
      where
        f : eqb (role t n) node.in_expression ≡ false
        f = ne_eqb (role t n) node.in_expression r

        fine : (judged (right t n) (meaning (declarations_of t n)) (place t n)).number ≡ 0
        fine = rw (h, f) at (types n (mem_upto (count t) n l))

        bound_is : binding t n ≡ binding_of (meaning (declarations_of t n))
        bound_is = rw (h, f)

        by : (ds : List ℕ) → declarations_of t n ≡ ds → (judged (right t n) (meaning ds) (place t n)).number ≡ 0 → Memᴰ y ds ↔ (binding t n ≡ y + 1)
        by [] e z = absurd (omega arith)
        by (k ∷ []) e z = (
          λ m. let q = Memᴰ.eq_of_singleton m in bound_is ∙ rw (e, q),
          λ i. let j : k + 1 ≡ y + 1 = sym (bound_is ∙ rw e) ∙ i in let q : y ≡ k = omega arith in Memᴰ.head q,
        )
        by (k ∷ j ∷ ds) e z = absurd (omega arith)

    name_bound :
        (r : ℕ) → r ≢ node.in_expression → (n : ℕ) → n < count t → is_name_in t r n ≡ true → (y : ℕ) → Memᴰ y (declarations_of t n) ↔ (binding t n ≡ y + 1)
    name_bound r d n l h =
        let q = eqb-true (role t n) r (and_snd (is t node.name n) (eqb (role t n) r) h) in
        type_name_bound n l (and_fst (is t node.name n) (eqb (role t n) r) h) (λ e. d (sym q ∙ e))

    pub super_edge_iff : (x y : ℕ) → Joins (super_edges t) x y ↔ Bound t (is_name_in t node.supertype_name) x y
    unfolding super_edges
    super_edge_iff x y =
        edges_bound (is_name_in t node.supertype_name) (declarations_of t) (name_bound node.supertype_name (λ (e : ◌≡◌ {A = ℕ} 5 1). omega arith)) x y

    pub renaming_edge_iff : (x y : ℕ) → Joins (renaming_edges t) x y ↔ Bound t (λ n. is_name_in t node.renamed_type n || is_name_in t node.select_name n) x y
    unfolding renaming_edges
    renaming_edge_iff x y =
        edges_bound (λ n. is_name_in t node.renamed_type n || is_name_in t node.select_name n) (declarations_of t)
        (λ n l h. ⊎_elim (λ a. name_bound node.renamed_type (λ (e : ◌≡◌ {A = ℕ} 3 1). omega arith) n l a)
        (λ a. name_bound node.select_name (λ (e : ◌≡◌ {A = ℕ} 4 1). omega arith) n l a) (or_cases (is_name_in t node.renamed_type n) (is_name_in t node.select_name n) h))
        x y

-- an edge of constants stays in its schema
module _ {t : Table} (d : Read file t) where
  use_schema : (n y : ℕ) → is_use t n ≡ true → means t n ≡ one y → is t node.constant y ≡ true → schema_of t y ≡ schema_of t n
  unfolding candidates_of candidates
  use_schema n y u m k = by ((nearest_mem (own t (owner t n) s) _ y).0 in_candidates)
    where
      s : ℕ
      s = symbol t n

      is_constant : kind t y ≡ node.constant
      is_constant = eqb-true (kind t y) node.constant k

      in_candidates : Memᴰ y (candidates t n s)
      in_candidates = rw u at ((means_one t n y).0 m).member

      by : Memᴰ y (own t (owner t n) s)
          ⊎ ((own t (owner t n) s ≡ []) × Memᴰ y (nearest (inherited t (owner t n) s) (nearest (declarations t (schema_of t n) s) (items t (schema_of t n) s))))
          → schema_of t y ≡ schema_of t n
      by (inl i) = absurd (false≢true (rw is_constant at ((own_iff t (owner t n) s y).0 i).suits.0))
      by (inr r) =
          ⊎_elim (λ i. absurd (false≢true (rw is_constant at ((inherited_iff t (owner t n) s y).0 i).suits.0)))
          (λ q.
          ⊎_elim (λ i. ((declarations_iff t (schema_of t n) s y).0 i).suits.1)
          (λ w. absurd (false≢true (rw is_constant at ((items_iff t (schema_of t n) s y).0 w.1).suits.0)))
          ((nearest_mem (declarations t (schema_of t n) s) (items t (schema_of t n) s) y).0 q.1))
          ((nearest_mem (inherited t (owner t n) s) _ y).0 r.1)

  pub constant_edge_schema : (x y : ℕ) → Joins (constant_edges t) x y → schema_of t x ≡ schema_of t y
  unfolding mem
  constant_edge_schema x y e =
      let r = (constant_edge_iff t x y).0 e in
      let B = r.0 in
      let n = B.name in
      let u = and_fst (is_use t n) (in_constant t n) B.passes in
      let k = eqb-true (kind t n) node.name (and_fst (is t node.name n) (eqb (role t n) node.in_expression) u) in
      let o = owner_schema d n B.known (rw k) in
      sym (use_schema n y u ((binding_one t n y).0 B.bound) r.1 ∙ sym o ∙ ap (schema_of t) B.owned)

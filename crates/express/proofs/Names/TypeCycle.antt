-- A cycle of types and entities is one of renamings and select lists, or one of supertypes: none runs over both.
use mathlib.Core.Path.{◌≡◌, refl, sym, ap, ◌∙◌}
use mathlib.Core.Logic.{◌↔◌, ◌≢◌, ◌⊎◌, inl, inr, ⊎_elim}
use mathlib.Core.Bool.{Bool, true, false, cond, ◌||◌}
use mathlib.Core.List.Memᴰ
use mathlib.Core.List.{List, [], ◌∷◌, Memᴰ}
use Prim.Native.Nat.{ℕ, ◌<◌}
use native.Mathlib.Omega.{arith}
use borrow.Author.Tests.{eqb-true, eqb-false, ne_eqb}
use lib.Dec.{eqb}
use Rattle.express.specs.Syntax.NodeKind as node
use Rattle.express.specs.Syntax.Tree.{Table, count, kind, role, place, nodes, is, is_name_in}
use Rattle.express.specs.Syntax.Grammar.{file}
use Rattle.express.specs.Syntax.Syntax.{Read}
use Rattle.relations.specs.Reach.{Reaches, direct, onward, Joins}
use Rattle.express.specs.Names.Scope.{meaning, declarations_of, means, super_edges, renaming_edges, type_edges}
use Rattle.express.specs.Names.Fault.{fine, fault, judged, suits, right, type_name_fault}
use Rattle.express.specs.Names.Names.{Passes}
use Rattle.relations.proofs.Select.{and_fst, and_snd, mem_upto}
use Rattle.relations.proofs.Reach.{reaches_wider}
use Rattle.express.proofs.Names.Meaning.{edge_start}
use Rattle.express.proofs.Names.Owned.{renaming_owner}

-- after the stage of types, what a name of a type or a supertype means suits its role
module _ (t : Table) (types : Passes (nodes t) (type_name_fault t)) where
  fine_type : (n : ℕ) → n < count t → is t node.name n ≡ true → role t n ≢ node.in_expression → (judged (right t n) (meaning (declarations_of t n)) (place t n)).number ≡ 0
  unfolding type_name_fault means
  fine_type n l h r =
      let f = ne_eqb (role t n) node.in_expression r in
      let g = types n (mem_upto (count t) n l) in
      rw (h, f) at g

  pub type_suits : (n : ℕ) → n < count t → is t node.name n ≡ true → role t n ≢ node.in_expression → (b : ℕ) → Memᴰ b (declarations_of t n) → suits t (role t n) b ≡ true
  type_suits n l h r b m = by (declarations_of t n) m (fine_type n l h r)
    where
      passes : (k : ℕ) (x : Bool) → right t n k ≡ x → (cond x fine (fault 11 (place t n))).number ≡ 0 → suits t (role t n) k ≡ true
      passes k true e z = let f = ne_eqb (role t n) node.in_expression r in rw (h, f) at e
      passes k false e z = absurd (omega arith)

      by : (ds : List ℕ) → Memᴰ b ds → (judged (right t n) (meaning ds) (place t n)).number ≡ 0 → suits t (role t n) b ≡ true
      by [] m z = absurd (Memᴰ.not-nil m)
      by (k ∷ []) m z = let q = Memᴰ.eq_of_singleton m in rw q (passes k (right t n k) refl z)
      by (k ∷ j ∷ ds) m z = absurd (omega arith)

  -- so supertypes are entities
  super_end : (a b : ℕ) → Joins (super_edges t) a b → kind t b ≡ node.entity
  unfolding super_edges
  super_end a b e =
      let r = edge_start t (is_name_in t node.supertype_name) (declarations_of t) a b e in
      let n = r.0 in
      let h = and_fst (is t node.name n) (eqb (role t n) node.supertype_name) r.2 in
      let q : role t n ≡ node.supertype_name = eqb-true (role t n) node.supertype_name (and_snd (is t node.name n) (eqb (role t n) node.supertype_name) r.2) in
      let s = type_suits n r.1 h (λ (z : role t n ≡ node.in_expression). omega arith) b r.4 in
      eqb-true (kind t b) node.entity (rw q at s)

  module _ (d : Read file t) where
    -- a renaming starts at a type
    renaming_start : (a b : ℕ) → Joins (renaming_edges t) a b → kind t a ≡ node.type
    unfolding renaming_edges
    renaming_start a b e =
        let r = edge_start t (λ n. is_name_in t node.renamed_type n || is_name_in t node.select_name n) (declarations_of t) a b e in
        ap (kind t) (sym r.3) ∙ renaming_owner d r.0 r.1 r.2

    which : (a b : ℕ) → Joins (type_edges t) a b → Joins (renaming_edges t) a b ⊎ Joins (super_edges t) a b
    unfolding type_edges
    which a b e = Memᴰ.append_cases (renaming_edges t) e

    -- from an entity only supertypes are reached
    pub from_entity : {a b : ℕ} → Reaches (Joins (type_edges t)) a b → kind t a ≡ node.entity → Reaches (Joins (super_edges t)) a b × (kind t b ≡ node.entity)
    from_entity (direct {a} {b} e) h =
        ⊎_elim (λ r. let z = renaming_start a b r in absurd (omega arith)) (λ s. (direct s, super_end a b s)) (which a b e)
    from_entity (onward {a} {b} {c} e r) h =
        ⊎_elim (λ x. let z = renaming_start a b x in absurd (omega arith))
        (λ s. let z = from_entity r (super_end a b s) in (onward s z.0, z.1)) (which a b e)

    -- and what is no entity is reached over renamings alone
    to_type : {a b : ℕ} → Reaches (Joins (type_edges t)) a b → kind t b ≢ node.entity → Reaches (Joins (renaming_edges t)) a b
    to_type (direct {a} {b} e) h = ⊎_elim (λ r. direct r) (λ s. absurd (h (super_end a b s))) (which a b e)
    to_type (onward {a} {b} {c} e r) h =
        ⊎_elim (λ x. onward x (to_type r h)) (λ s. absurd (h (from_entity r (super_end a b s)).1)) (which a b e)

    pub type_cycle : (n : ℕ) → Reaches (Joins (type_edges t)) n n ↔ (Reaches (Joins (renaming_edges t)) n n ⊎ Reaches (Joins (super_edges t)) n n)
    unfolding type_edges
    type_cycle n = (
      λ r. by (is t node.entity n) refl r,
      λ s. ⊎_elim (λ a. reaches_wider (λ x y e. Memᴰ.append_left (super_edges t) e) a) (λ a. reaches_wider (λ x y e. Memᴰ.append_right (renaming_edges t) e) a) s,
    )
      where
        by : (b : Bool) → is t node.entity n ≡ b → Reaches (Joins (type_edges t)) n n → Reaches (Joins (renaming_edges t)) n n ⊎ Reaches (Joins (super_edges t)) n n
        by true e r = inr (from_entity r (eqb-true (kind t n) node.entity e)).0
        by false e r = inl (to_type r (eqb-false (kind t n) node.entity e))

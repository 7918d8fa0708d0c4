-- A well-named file has an order of its constants in which each stands after those that it needs.
use mathlib.Core.Path.{◌≡◌, refl, sym, ap, subst, ◌∙◌}
use mathlib.Core.Logic.{◌≢◌, ◌⊎◌, inl, inr, ⊎_elim}
use mathlib.Core.Bool.{Bool, true, false, cond, not, ◌&&◌, ◌||◌, false≢true}
use mathlib.Core.Option.{Option, none, some}
use mathlib.Core.List.{List, [], ◌∷◌, map, Memᴰ}
use Prim.Native.Nat.{ℕ, ◌+◌, ◌<◌}
use native.Mathlib.Omega.{arith}
use borrow.Author.Tests.{eqb-true, eqb-false, eq-eqb, not-true, le-leb}
use lib.Dec.{eqb, leb}
use lib.ListN.{get_or, get_or-eq_default}
use Rattle.express.specs.Syntax.NodeKind as node
use Rattle.relations.specs.Select.{keep}
use Rattle.express.specs.Syntax.Tree.{Table, count, kind, role, symbol, first, nodes, is, owner, in_constant}
use Rattle.relations.specs.Reach.{Reaches, direct, onward, edge, Joins}
use Rattle.express.specs.Names.Scope.{Meaning, several, one, meaning, items_of, item_meant, is_use, type_meant, means, binding_of, binding, bindings}
use Rattle.express.specs.Names.Scope as scope
use Rattle.express.specs.Names.Fault.{suits, right, type_name_fault, cyclic, constants_meant, constant_edges}
use Rattle.express.specs.Names.Names.{WellNamed}
use Rattle.express.specs.Semantics.Declared.{declaration, bound, denoted}
use Rattle.express.specs.Semantics.Shape.{Shape, Operator, name, is_string, shape, shape_in, operator_of, evaluated, name_shape_in}
use Rattle.express.specs.Semantics.Order.{Uses, Order, constant_order}
use Rattle.relations.proofs.Select.{and_fst, and_snd, and_both, untrue, le_or, mem_upto, keep_mem, mem_keep, mem_flat, column_at}
use Rattle.relations.proofs.Reach.{reaches_iff}
use Rattle.express.proofs.Names.Meaning.{edge_start}
use Rattle.relations.specs.Sorted.{Sorted}
use Rattle.relations.proofs.Topological as topological
use Rattle.relations.proofs.Topological.{sorted_reaches, sorted_narrower}

-- what a shape that names a constant tells
pub record BoundName (t : Table) (b : List ℕ) (n c : ℕ) : Type 0 where
  pub is_name : is t node.name n || is t node.qualified_item n ≡ true
  pub bound_to : bound t b node.constant n ≡ true
  pub constant : declaration b n ≡ c

-- passing a test that leads to a shape which is no name
skip : {c : ℕ} (b : Bool) (x y : Shape) → (x ≡ name c → ⊥) → cond b x y ≡ name c → y ≡ name c
skip true x y h e = absurd (h e)
skip false x y h e = e

take : {c : ℕ} (b : Bool) (x y : Shape) → cond b x y ≡ name c → ((b ≡ true) × (x ≡ name c)) ⊎ (y ≡ name c)
take true x y e = inl (refl, e)
take false x y e = inr e

operator_no : {c : ℕ} (o : Option Operator) → evaluated o ≡ name c → ⊥
operator_no none e = let z : ◌≡◌ {A = ℕ} 0 1 = cc in omega arith
operator_no (some o) e = let z : ◌≡◌ {A = ℕ} 0 1 = cc in omega arith

named_is : (t : Table) (b : List ℕ) (n c : ℕ) → is t node.name n || is t node.qualified_item n ≡ true → name_shape_in t t b n ≡ name c → BoundName t b n c
named_is t b n c h e = by (bound t b node.enumeration_item n) (bound t b node.constant n) refl e
  where
    by : (x y : Bool) → bound t b node.constant n ≡ y
        → cond x (Shape.item (declaration b n)) (cond y (name (declaration b n)) (Shape.type (denoted t b n))) ≡ name c → BoundName t b n c
    by true y q e = let z : ◌≡◌ {A = ℕ} 0 1 = cc in absurd (omega arith)
    by false true q e = record { is_name = h; bound_to = q; constant = cc }
    by false false q e = let z : ◌≡◌ {A = ℕ} 0 1 = cc in absurd (omega arith)

shape_named : (t : Table) (b : List ℕ) (n c : ℕ) → shape t b n ≡ name c → BoundName t b n c
unfolding shape_in
shape_named t b n c e =
    let e₁ = skip (is t node.integer_literal n) _ _ (λ q. let z : ◌≡◌ {A = ℕ} 0 1 = cc in omega arith) e in
    let e₂ = skip (is t node.binary_literal n) _ _ (λ q. let z : ◌≡◌ {A = ℕ} 0 1 = cc in omega arith) e₁ in
    let e₃ = skip (is t node.logical_literal n) _ _ (λ q. let z : ◌≡◌ {A = ℕ} 0 1 = cc in omega arith) e₂ in
    let e₃' = skip (is_string t n) _ _ (λ q. let z : ◌≡◌ {A = ℕ} 0 1 = cc in omega arith) e₃ in
    let e₄ = skip (is t node.question n) _ _ (λ q. let z : ◌≡◌ {A = ℕ} 0 1 = cc in omega arith) e₃' in
    ⊎_elim (λ q. named_is t b n c q.0 q.1)
    (λ e₅.
    let e₆ = skip (is t node.unary n) _ _ (λ q. let z : ◌≡◌ {A = ℕ} 0 1 = cc in omega arith) e₅ in
    let e₇ = skip (is t node.two_operand n) _ _ (operator_no (operator_of _)) e₆ in
    let e₈ = skip (is t node.interval n) _ _ (λ q. let z : ◌≡◌ {A = ℕ} 0 1 = cc in omega arith) e₇ in
    let e₉ = skip (is t node.interval_operator n) _ _ (λ q. let z : ◌≡◌ {A = ℕ} 0 1 = cc in omega arith) e₈ in
    let e₁₀ = skip (is t node.simple_type n) _ _ (λ q. let z : ◌≡◌ {A = ℕ} 0 1 = cc in omega arith) e₉ in
    let e₁₁ = skip (is t node.constant n) _ _ (λ q. let z : ◌≡◌ {A = ℕ} 0 1 = cc in omega arith) e₁₀ in
    let z : ◌≡◌ {A = ℕ} 0 1 = cc in absurd (omega arith))
    (take (is t node.name n || is t node.qualified_item n) _ _ e₄)

-- a node that names a constant is one of the table
name_below : (t : Table) (b : List ℕ) (n c : ℕ) → shape t b n ≡ name c → n < count t
name_below t b n c e =
    ⊎_elim
    (λ l.
    let z : kind t n ≡ 0 = get_or-eq_default t.kinds 0 l in
    absurd (false≢true (rw z at (shape_named t b n c e).is_name)))
    (λ l. l) (le_or (count t) n)

module _ (t : Table) where
  constant_below : (n : ℕ) → is t node.constant n ≡ true → n < count t
  constant_below n h =
      ⊎_elim (λ l. let z : kind t n ≡ 0 = get_or-eq_default t.kinds 0 l in let y = eqb-true (kind t n) node.constant h in absurd (omega arith))
      (λ l. l) (le_or (count t) n)

  -- a node bound to a constant means that constant
  pub bound_means : (n c : ℕ) → n < count t → bound t (bindings t) node.constant n ≡ true → declaration (bindings t) n ≡ c → (means t n ≡ one c) × (is t node.constant c ≡ true)
  unfolding bindings binding
  bound_means n c l h q = by (means t n) refl
    where
      at : get_or (bindings t) n 0 ≡ binding_of (means t n)
      at = column_at (binding t) (count t) n l

      some_binding : get_or (bindings t) n 0 ≢ 0
      some_binding = eqb-false (get_or (bindings t) n 0) 0 (not-true (eqb (get_or (bindings t) n 0) 0) (and_fst (not (eqb (get_or (bindings t) n 0) 0)) (is t node.constant (declaration (bindings t) n)) h))

      a_constant : is t node.constant c ≡ true
      a_constant = rw q at (and_snd (not (eqb (get_or (bindings t) n 0) 0)) (is t node.constant (declaration (bindings t) n)) h)

      by : (m : Meaning) → means t n ≡ m → (means t n ≡ one c) × (is t node.constant c ≡ true)
      by scope.none e = absurd (some_binding (at ∙ ap binding_of e))
      by several e = absurd (some_binding (at ∙ ap binding_of e))
      by (one k) e =
          let b : get_or (bindings t) n 0 ≡ k + 1 = at ∙ ap binding_of e in
          let r : k ≡ c = omega arith in (e ∙ ap one r, a_constant)

  -- an item is no constant
  item_no : (s c : ℕ) (m : Meaning) → item_meant t s m ≡ one c → is t node.constant c ≡ true → ⊥
  unfolding item_meant items_of
  item_no s c scope.none e h = let z : ◌≡◌ {A = ℕ} 0 1 = cc in omega arith
  item_no s c several e h = let z : ◌≡◌ {A = ℕ} 0 1 = cc in omega arith
  item_no s c (one y) e h = by (items_of t y s) refl e
    where
      by : (ks : List ℕ) → items_of t y s ≡ ks → meaning ks ≡ one c → ⊥
      by [] q e = let z : ◌≡◌ {A = ℕ} 0 1 = cc in omega arith
      by (k ∷ []) q e =
          let m : Memᴰ k (items_of t y s) = rw q (mathlib.Core.List.Memᴰ.head refl) in
          let r = (keep_mem (λ k. eqb (symbol t k) s && (is t node.enumeration_item k && eqb (owner t k) y)) (nodes t) m).1 in
          let i = and_fst (is t node.enumeration_item k) (eqb (owner t k) y) (and_snd (eqb (symbol t k) s) _ r) in
          let p : k ≡ c = cc in
          let a = eqb-true (kind t k) node.enumeration_item i in
          let b = eqb-true (kind t c) node.constant h in
          let d = ap (kind t) p in omega arith
      by (k ∷ l ∷ ks) q e = let z : ◌≡◌ {A = ℕ} 0 1 = cc in omega arith

  item_means : (n : ℕ) → is t node.name n ≡ false → is t node.qualified_item n ≡ true → means t n ≡ item_meant t (symbol t n) (type_meant t n)
  unfolding means
  item_means n q r = rw (q, r)

  suits_no : (r c : ℕ) → is t node.constant c ≡ true → suits t r c ≡ false
  suits_no r c h = let q = eqb-true (kind t c) node.constant h in rw q (by (eqb r node.renamed_type) (eqb r node.supertype_name))
    where
      by : (a b : Bool) → cond a false (cond b false false) ≡ false
      by true b = refl
      by false true = refl
      by false false = refl

  module _ (W : WellNamed t) where
    -- a type's name means no constant
    type_no : (n c : ℕ) → n < count t → is t node.name n ≡ true → eqb (role t n) node.in_expression ≡ false → means t n ≡ one c → is t node.constant c ≡ true → ⊥
    unfolding type_name_fault
    type_no n c l h r e k =
        let q : right t n c ≡ false = rw (h, r) (suits_no (role t n) c k) in
        let f : (type_name_fault t n).number ≡ 11 = rw (h, r, e, q) in
        let g = W.types n (mem_upto (count t) n l) in omega arith

    -- a name of a constant, in a constant, is an edge between the two
    pub named_edge : (n c : ℕ) → n < count t → in_constant t n ≡ true → shape t (bindings t) n ≡ name c → Joins (constant_edges t) (owner t n) c
    unfolding constant_edges
    named_edge n c l own e =
        let N = shape_named t (bindings t) n c e in
        let m = bound_means n c l N.bound_to N.constant in
        mem_flat (λ k. map (edge (owner t k)) (constants_meant t (means t k))) (keep (λ k. is_use t k && in_constant t k) (nodes t))
        (mem_keep (λ k. is_use t k && in_constant t k) (nodes t) (mem_upto (count t) n l)
        (and_both (is_use t n) (in_constant t n) (by (is_use t n) (is t node.name n) (is t node.qualified_item n) refl refl refl N.is_name m.0 m.1) own))
        (mathlib.Core.List.Memᴰ.map (edge (owner t n)) (meant m.0 m.1))
      where
        meant : means t n ≡ one c → is t node.constant c ≡ true → Memᴰ c (constants_meant t (means t n))
        meant m k = rw (m, k) (mathlib.Core.List.Memᴰ.head refl)

        by : (x y z : Bool) → is_use t n ≡ x → is t node.name n ≡ y → is t node.qualified_item n ≡ z → is t node.name n || is t node.qualified_item n ≡ true
            → means t n ≡ one c → is t node.constant c ≡ true → is_use t n ≡ true
        by true y z p q r h m k = p
        by false true z p q r h m k =
            let no_use = untrue (eqb (role t n) node.in_expression) (λ x. false≢true (sym p ∙ and_both (is t node.name n) (eqb (role t n) node.in_expression) q x)) in
            absurd (type_no n c l q no_use m k)
        by false false true p q r h m k = absurd (item_no (symbol t n) c (type_meant t n) (sym (item_means n q r) ∙ m) k)
        by false false false p q r h m k = absurd (false≢true (rw (q, r) at h))

    -- such an edge leads from a constant to a constant
    edge_constants : (a c : ℕ) → Joins (constant_edges t) a c → (is t node.constant a ≡ true) × (is t node.constant c ≡ true)
    unfolding constant_edges
    edge_constants a c m =
        let r = edge_start t (λ k. is_use t k && in_constant t k) (λ k. constants_meant t (means t k)) a c m in
        let n = r.0 in
        let k = and_fst (is t node.constant (owner t n)) (leb (first t (owner t n)) n) (and_snd (is_use t n) (in_constant t n) r.2) in
        (subst (λ (x : ℕ). is t node.constant x ≡ true) r.3 k, by (means t n) r.4)
      where
        if : (k x : ℕ) (b : Bool) → is t node.constant k ≡ b → Memᴰ x (cond b (k ∷ []) []) → is t node.constant x ≡ true
        if k x true e m = let q = mathlib.Core.List.Memᴰ.eq_of_singleton m in subst (λ (y : ℕ). is t node.constant y ≡ true) (sym q) e
        if k x false e m = absurd (mathlib.Core.List.Memᴰ.not-nil m)

        by : {x : ℕ} (m : Meaning) → Memᴰ x (constants_meant t m) → is t node.constant x ≡ true
        by scope.none m = absurd (mathlib.Core.List.Memᴰ.not-nil m)
        by several m = absurd (mathlib.Core.List.Memᴰ.not-nil m)
        by {x} (one k) m = if k x (is t node.constant k) refl m

    abbrev constants : List ℕ
    constants = keep (is t node.constant) (nodes t)

    constant_mem : (c : ℕ) → is t node.constant c ≡ true → Memᴰ c constants
    constant_mem c h = mem_keep (is t node.constant) (nodes t) (mem_upto (count t) c (constant_below c h)) h

    -- cycles of constants are refused: no constant reaches itself
    pub no_cycle : (c : ℕ) → is t node.constant c ≡ true → Reaches (Joins (constant_edges t)) c c → ⊥
    unfolding cyclic
    no_cycle c h r =
        let f : (cyclic t (is t node.constant) (constant_edges t) c).number ≡ 13 = rw (h, (reaches_iff (constant_edges t) c c).1 r) in
        let g = W.constant_cycles c (mem_upto (count t) c (constant_below c h)) in omega arith

    -- the constants in an order
    pub arranged : topological.Arranged (Joins (constant_edges t)) constants (constant_order t)
    unfolding constant_order
    arranged =
        topological.acyclic_arranged (constant_edges t) constants (λ a b e m. constant_mem b (edge_constants a b e).1)
        (λ v m r. no_cycle v (keep_mem (is t node.constant) (nodes t) m).1 r)

    -- a use in a constant is an edge
    use_edge : (d c : ℕ) → is t node.constant d ≡ true → Uses t (bindings t) d c → Joins (constant_edges t) d c
    use_edge d c k u =
        let o = u.owned in
        let l = name_below t (bindings t) u.node c u.names in
        let h : in_constant t u.node ≡ true = rw o (and_both _ _ k (le-leb _ _ u.from)) in
        subst (λ (x : ℕ). Joins (constant_edges t) x c) o (named_edge u.node c l h u.names)

    -- so what a constant needs is reached over edges
    needs_reached : {d c : ℕ} → is t node.constant d ≡ true → Reaches (Uses t (bindings t)) d c → Reaches (Joins (constant_edges t)) d c
    needs_reached k (direct {a} {b} u) = direct (use_edge a b k u)
    needs_reached k (onward {a} {b} u r) = let e = use_edge a b k u in onward e (needs_reached (edge_constants a b e).1 r)

    -- A LIST OF THE CONSTANTS THAT IS SORTED BY EDGES is an order
    pub order_from :
        (ds : List ℕ) → Sorted (Joins (constant_edges t)) [] ds → ((c : ℕ) → Memᴰ c ds → is t node.constant c ≡ true) →
        ((c : ℕ) → is t node.constant c ≡ true → Memᴰ c ds) → Order t (bindings t) ds
    order_from ds sorted are all =
        record {
          sorted =
              sorted_narrower (λ d c m N. needs_reached (are d m) N.reached) (sorted_reaches (λ a c m e. absurd (mathlib.Core.List.Memᴰ.not-nil m)) sorted);
          among = λ c m. (constant_below c (are c m), eqb-true (kind t c) node.constant (are c m));
          complete = λ c l q. all c (eq-eqb (kind t c) node.constant q);
        }

    -- and there is one: of a well-named file's constants, each after those that it needs
    pub order_is : Order t (bindings t) (constant_order t)
    order_is =
        order_from (constant_order t) arranged.sorted (λ c m. (keep_mem (is t node.constant) (nodes t) (arranged.among c m)).1)
        (λ c k. arranged.complete c (constant_mem c k))

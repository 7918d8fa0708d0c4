-- The two graphs of a file that the grammar derives: by the names of types, and by the names of constants.
use mathlib.Core.Path.{◌≡◌, refl, sym, ap, ◌∙◌}
use mathlib.Core.Logic.{◌↔◌, ⊎_elim}
use mathlib.Core.Bool.{Bool, true, false, cond, not, ◌&&◌, ◌||◌, false≢true}
use mathlib.Core.List.Memᴰ
use mathlib.Core.List.{List}
use Prim.Native.Nat.{ℕ, ◌+◌, ◌≤◌, ◌<◌}
use native.Mathlib.Omega.{arith}
use borrow.Author.Tests.{eqb-true}
use lib.Dec.{eqb}
use lib.ListN.{length, get_or}
use Rattle.ebnf.specs.Set.{mem}
use Rattle.relations.specs.Reach.{Edge, Joins}
use Rattle.relations.proofs.Select.{and_fst, and_snd, and_both, or_cases, or_left, or_right, untrue}
use Rattle.cycles.specs.State.{needed}
use Rattle.express.specs.Syntax.NodeKind as node
use Rattle.express.specs.Syntax.Tree.{Table, count, kind, role, nodes, is, is_name_in, is_declaration, owner, in_constant}
use Rattle.express.specs.Syntax.Grammar.{file}
use Rattle.express.specs.Syntax.Syntax.{Read}
use Rattle.express.specs.Tokens.Scanned.{Scanned}
use Rattle.express.specs.Names.Scope.{Meaning, none, one, several, meaning, declarations, declarations_of, is_use, means, renaming_edges, super_edges, type_edges}
use Rattle.express.specs.Names.Fault.{type_name_fault, constant_edges}
use Rattle.express.specs.Names.Names.{Passes}
use Rattle.express.proofs.Syntax.KindSets as set
use Rattle.express.proofs.Syntax.Within.{owner_over}
use Rattle.express.proofs.Names.Meaning.{candidates_of, means_one, declarations_iff}
use Rattle.express.proofs.Names.Owned.{in_schema, in_constant_is}
use Rattle.express.proofs.Names.Edges.{Bound, binding_one, constant_edge_iff, super_edge_iff, renaming_edge_iff}
use Rattle.scopes.specs.Entries.{vertex}
use Rattle.scopes.specs.Range.{vertex_count, node_of}
use Rattle.scopes.proofs.Ranges.{node_number, number_below, number_node, Numbered}
use Rattle.dependencies.specs.Target.{Targets, Leads, Edges, target_of, type_target, constant_of, constant_target}
use Rattle.dependencies.specs.Graph.{GraphOf}
use Rattle.dependencies.specs.Arrangement.{Asked}
use Rattle.dependencies.proofs.Cycle.{declared_known}
use Rattle.dependencies.proofs.TextOrder.{in_text_order}

-- ---- names and declarations

module _ (t : Table) where
  same_vertex : (x y : ℕ) → is_declaration t x ≡ true → is_declaration t y ≡ true → vertex t x ≡ vertex t y → x ≡ y
  same_vertex x y d e q =
      sym (number_node t x (declared_known t x d) d) ∙ ap (node_of t) q ∙ number_node t y (declared_known t y e) e

  vertex_low : (y : ℕ) → is_declaration t y ≡ true → vertex t y + 1 ≤ vertex_count t
  vertex_low y d = omega (arith, number_below t y (declared_known t y d) d)

  name_kind : (n : ℕ) → is t node.name n ≡ true → kind t n ≡ node.name
  name_kind n h = eqb-true (kind t n) node.name h

  -- a name is no declaration
  not_name : (n : ℕ) → is_declaration t n ≡ true → is t node.name n ≡ false
  not_name n d = untrue (is t node.name n) (λ h. false≢true (rw (name_kind n h) at d))

-- a name stands in a declaration
module _ {t : Table} (d : Read file t) (n : ℕ) (l : n < count t) (h : is t node.name n ≡ true) where
  placed : mem (kind t n) set.below_schema ≡ true
  unfolding mem
  placed = rw (name_kind t n h)

  owner_declared : is_declaration t (owner t n) ≡ true
  owner_declared = let a = in_schema d n l placed in (owner_over d n a.0 a.1).1

-- ---- the names of types

abbrev is_type_arc : Table → ℕ → Bool
is_type_arc t n = is_name_in t node.renamed_type n || is_name_in t node.select_name n || is_name_in t node.supertype_name n

-- of a name, by its role
abbrev pub makes_arc : ℕ → Bool
makes_arc role = eqb role node.renamed_type || eqb role node.select_name || eqb role node.supertype_name

module _ (t : Table) where
  by_role : (n : ℕ) → is_type_arc t n ≡ is t node.name n && makes_arc (role t n)
  by_role n = by (is t node.name n)
    where
      by : (b : Bool) → b && eqb (role t n) node.renamed_type || b && eqb (role t n) node.select_name || b && eqb (role t n) node.supertype_name ≡ b && makes_arc (role t n)
      by true = refl
      by false = refl

  -- the role of a name in an expression is none of the three
  not_use : (n : ℕ) → makes_arc (role t n) ≡ true → eqb (role t n) node.in_expression ≡ false
  not_use n h = untrue (eqb (role t n) node.in_expression) (λ e. false≢true (rw (eqb-true (role t n) node.in_expression e) at h))

  arc_named : (n : ℕ) → is_type_arc t n ≡ true → is t node.name n ≡ true
  arc_named n h = and_fst (is t node.name n) (makes_arc (role t n)) (sym (by_role n) ∙ h)

  arc_role : (n : ℕ) → is_type_arc t n ≡ true → eqb (role t n) node.in_expression ≡ false
  arc_role n h = not_use n (and_snd (is t node.name n) (makes_arc (role t n)) (sym (by_role n) ∙ h))

  -- what the name of a type means
  type_means : (n : ℕ) → is t node.name n ≡ true → makes_arc (role t n) ≡ true → means t n ≡ meaning (declarations_of t n)
  unfolding means
  type_means n h e = rw (h, not_use n e)

  pub type_target_is : (n : ℕ) → is t node.name n ≡ true → type_target t n ≡ cond (makes_arc (role t n)) (target_of t (meaning (declarations_of t n))) 0
  type_target_is n h = ap (λ (b : Bool). cond b (target_of t (means t n)) 0) (by_role n) ∙ rw h (by (makes_arc (role t n)) refl)
    where
      by : (b : Bool) → makes_arc (role t n) ≡ b → cond b (target_of t (means t n)) 0 ≡ cond b (target_of t (meaning (declarations_of t n))) 0
      by true e = ap (target_of t) (type_means n h e)
      by false e = refl

  -- no other node has a target
  pub type_target_other : (n : ℕ) → is t node.name n && not (eqb (role t n) node.in_expression) ≡ false → type_target t n ≡ 0
  type_target_other n h = by (is_type_arc t n) refl
    where
      by : (b : Bool) → is_type_arc t n ≡ b → cond b (target_of t (means t n)) 0 ≡ 0
      by false e = refl
      by true e = absurd (false≢true (sym h ∙ rw (arc_named n e, arc_role n e)))

  -- a declaration that is found by its number
  pub target_number : {nodes : List ℕ} {h s e : ℕ} → Numbered t nodes h s e → target_of t (meaning (declarations t h s)) ≡ e + 1
  target_number {e = e} F = ap (target_of t) F.meant ∙ ap (λ (k : ℕ). k + 1) (node_number t e F.number)

  -- what is meant is a declaration
  type_declared : (n y : ℕ) → is_type_arc t n ≡ true → means t n ≡ one y → is_declaration t y ≡ true
  unfolding candidates_of
  type_declared n y h e = ((declarations_iff t _ _ y).0 (rw (arc_named n h, arc_role n h) at ((means_one t n y).0 e).member)).suits.0

  pub type_targets : Targets t (type_target t)
  type_targets = record { below = λ n. low n (is_type_arc t n) (means t n) refl refl; none = λ n d. rw (not_name t n d) }
    where
      low : (n : ℕ) (b : Bool) (m : Meaning) → is_type_arc t n ≡ b → means t n ≡ m → cond b (target_of t m) 0 ≤ vertex_count t
      low n false m e f = omega arith
      low n true none e f = omega arith
      low n true several e f = omega arith
      low n true (one y) e f = vertex_low t y (type_declared n y e f)

module _ {t : Table} (d : Read file t) (types : Passes (nodes t) (type_name_fault t)) where
  pub type_edge_iff : (x y : ℕ) → Joins (type_edges t) x y ↔ Bound t (is_type_arc t) x y
  unfolding type_edges
  type_edge_iff x y = (
    λ e.
        ⊎_elim
        (λ m. let B = (renaming_edge_iff t types x y).0 m in other B (or_left (renames B.name) (inherits B.name) B.passes))
        (λ m. let B = (super_edge_iff t types x y).0 m in other B (or_right (renames B.name) (inherits B.name) B.passes))
        (Memᴰ.append_cases (renaming_edges t) e),
    λ B.
        ⊎_elim
        (λ a. Memᴰ.append_left (super_edges t) ((renaming_edge_iff t types x y).1 (other B a)))
        (λ a. Memᴰ.append_right (renaming_edges t) ((super_edge_iff t types x y).1 (other B a)))
        (or_cases (renames B.name) (inherits B.name) B.passes),
  )
    where
      renames : ℕ → Bool
      renames n = is_name_in t node.renamed_type n || is_name_in t node.select_name n

      inherits : ℕ → Bool
      inherits n = is_name_in t node.supertype_name n

      other : {p q : ℕ → Bool} (B : Bound t p x y) → q B.name ≡ true → Bound t q x y
      other B a = record { name = B.name; known = B.known; passes = a; owned = B.owned; bound = B.bound }

  type_leads : (x y : ℕ) → Bound t (is_type_arc t) x y → Leads t (type_target t) x y
  type_leads x y B =
      let n = B.name in
      let e = (binding_one t n y).0 B.bound in
      let k = type_declared t n y B.passes e in
      record {
        node = n;
        known = B.known;
        owned = B.owned;
        source = rw B.owned at (owner_declared d n B.known (arc_named t n B.passes));
        target_known = declared_known t y k;
        declared = k;
        target_is = rw (B.passes, e);
      }

  pub type_bound : (x y : ℕ) → Leads t (type_target t) x y → Bound t (is_type_arc t) x y
  type_bound x y L = by (is_type_arc t n) (means t n) refl refl L.target_is
    where
      n : ℕ
      n = L.node

      by : (b : Bool) (m : Meaning) → is_type_arc t n ≡ b → means t n ≡ m → cond b (target_of t m) 0 ≡ vertex t y + 1 → Bound t (is_type_arc t) x y
      by false m e f q = absurd (omega arith)
      by true none e f q = absurd (omega arith)
      by true several e f q = absurd (omega arith)
      by true (one k) e f q =
          let z = same_vertex t k y (type_declared t n k e f) L.declared (omega arith) in
          record { name = n; known = L.known; passes = e; owned = L.owned; bound = (binding_one t n y).1 (f ∙ ap one z) }

  -- N8: the edges of types and supertypes, once their names are in order
  pub type_arcs : Edges t (type_target t) (is_declaration t) (type_edges t)
  type_arcs = record {
    starts = λ x y e. (type_leads x y ((type_edge_iff x y).0 e)).source;
    arc = λ x y e. type_leads x y ((type_edge_iff x y).0 e);
    edge = λ w x y L M. (type_edge_iff x y).1 (type_bound x y M);
  }

-- ---- the names of constants

module _ (t : Table) where
  constant_declared : (y : ℕ) → is t node.constant y ≡ true → is_declaration t y ≡ true
  constant_declared y h = rw h

  -- a use that means the constant y
  record Constant (n y : ℕ) : Type 0 where
    used : is_use t n ≡ true
    meant : means t n ≡ one y
    constant : is t node.constant y ≡ true

  constant_made : (n y : ℕ) → Constant n y → constant_target t n ≡ vertex t y + 1
  constant_made n y C = rw (C.used, C.meant, C.constant)

  constant_is : (n w : ℕ) → constant_target t n ≡ w + 1 → (y : ℕ) × (vertex t y ≡ w) × Constant n y
  constant_is n w q = by (is_use t n) (means t n) refl refl q
    where
      by : (b : Bool) (m : Meaning) → is_use t n ≡ b → means t n ≡ m → cond b (constant_of t m) 0 ≡ w + 1 → (y : ℕ) × (vertex t y ≡ w) × Constant n y
      by false m e f q = absurd (omega arith)
      by true none e f q = absurd (omega arith)
      by true several e f q = absurd (omega arith)
      by true (one k) e f q = at (is t node.constant k) refl q
        where
          at : (b : Bool) → is t node.constant k ≡ b → cond b (vertex t k + 1) 0 ≡ w + 1 → (y : ℕ) × (vertex t y ≡ w) × Constant n y
          at true g q = (k, omega arith, record { used = e; meant = f; constant = g })
          at false g q = absurd (omega arith)

  -- a declaration that is found by its number
  pub constant_number : (e : ℕ) → e < vertex_count t → constant_of t (one (node_of t e)) ≡ cond (is t node.constant (node_of t e)) (e + 1) 0
  constant_number e l = rw (node_number t e l)

  pub constant_targets : Targets t (constant_target t)
  constant_targets = record { below = λ n. low n (is_use t n) (means t n); none = λ n d. rw (not_name t n d) }
    where
      at : (y : ℕ) (b : Bool) → is t node.constant y ≡ b → cond b (vertex t y + 1) 0 ≤ vertex_count t
      at y true e = vertex_low t y (constant_declared y e)
      at y false e = omega arith

      low : (n : ℕ) (b : Bool) (m : Meaning) → cond b (constant_of t m) 0 ≤ vertex_count t
      low n false m = omega arith
      low n true none = omega arith
      low n true several = omega arith
      low n true (one y) = at y (is t node.constant y) refl

module _ {t : Table} (d : Read file t) where
  abbrev in_one : ℕ → Bool
  in_one n = is_use t n && in_constant t n

  use_name : (n : ℕ) → is_use t n ≡ true → is t node.name n ≡ true
  use_name n h = and_fst (is t node.name n) (eqb (role t n) node.in_expression) h

  edge_leads : (x y : ℕ) → Joins (constant_edges t) x y → Leads t (constant_target t) x y × (is t node.constant x ≡ true)
  edge_leads x y e =
      let r = (constant_edge_iff t x y).0 e in
      let B = r.0 in
      let n = B.name in
      let u = and_fst (is_use t n) (in_constant t n) B.passes in
      let C : Constant t n y = record { used = u; meant = (binding_one t n y).0 B.bound; constant = r.1 } in
      let k = constant_declared t y r.1 in (
        record {
          node = n;
          known = B.known;
          owned = B.owned;
          source = rw B.owned at (owner_declared d n B.known (use_name n u));
          target_known = declared_known t y k;
          declared = k;
          target_is = constant_made t n y C;
        },
        rw B.owned at (and_fst (is t node.constant (owner t n)) _ (and_snd (is_use t n) (in_constant t n) B.passes)),
      )

  -- what is led to is a constant
  leads_constant : (x y : ℕ) (L : Leads t (constant_target t) x y) → Constant t L.node y
  leads_constant x y L =
      let r = constant_is t L.node (vertex t y) L.target_is in
      let q = same_vertex t r.0 y (constant_declared t r.0 r.2.constant) L.declared r.1 in
      rw q at r.2

  -- N17: the edges of constants
  pub constant_arcs : Edges t (constant_target t) (is t node.constant) (constant_edges t)
  constant_arcs = record {
    starts = λ x y e. (edge_leads x y e).1;
    arc = λ x y e. (edge_leads x y e).0;
    edge = λ w x y L M.
        let n = M.node in
        let C = leads_constant x y M in
        let i : in_constant t n ≡ true =
        in_constant_is d n M.known (placed d n M.known (use_name n C.used)) ∙ rw M.owned (leads_constant w x L).constant in
        (constant_edge_iff t x y).1
        (record { name = n; known = M.known; passes = and_both (is_use t n) (in_constant t n) C.used i; owned = M.owned; bound = (binding_one t n y).1 C.meant }, C.constant);
  }

-- ---- what `arrange` is asked of a file
module _ {t : Table} (d : Read file t) (scanned : Scanned t) {tokens starts column first to order scratch : List ℕ} (tokens_are : tokens ≡ t.tokens) (starts_are : starts ≡ t.starts)
    (nodes_are : (v : ℕ) → v < vertex_count t → get_or column v 0 ≡ node_of t v) (order_room : vertex_count t ≤ length order)
    (scratch_room : needed (vertex_count t) ≤ length scratch) where
  asked : {target : ℕ → ℕ} {p : ℕ → Bool} {es : List Edge} → GraphOf t target first to → Edges t target p es → Asked t target p es tokens starts column first to order scratch
  asked G E = record {
    tokens_are = tokens_are;
    starts_are = starts_are;
    nodes_are = nodes_are;
    text_order = in_text_order d scanned;
    graph = G;
    edges = E;
    order_room = order_room;
    scratch_room = scratch_room;
  }

  pub asked_types :
      Passes (nodes t) (type_name_fault t) → GraphOf t (type_target t) first to →
      Asked t (type_target t) (is_declaration t) (type_edges t) tokens starts column first to order scratch
  asked_types types G = asked G (type_arcs d types)

  pub asked_constants : GraphOf t (constant_target t) first to → Asked t (constant_target t) (is t node.constant) (constant_edges t) tokens starts column first to order scratch
  asked_constants G = asked G (constant_arcs d)

-- What an entity reaches in the graph of types and entities is what it reaches over supertypes, since these lead to entities alone (N7).
use mathlib.Core.Path.{◌≡◌, refl, sym}
use mathlib.Core.Logic.{◌↔◌}
use mathlib.Core.Bool.{Bool, true, false, ◌&&◌, false≢true}
use mathlib.Core.List.Memᴰ
use mathlib.Core.List.{List, []}
use Prim.Native.Nat.{ℕ, ◌+◌, ◌≤◌, ◌<◌}
use native.Mathlib.Omega.{arith}
use borrow.Author.Tests.{ltb-false, eqb-false}
use lib.Dec.{eqb, ltb}
use lib.ListN.{get_or}
use Rattle.relations.specs.Reach.{Reaches, direct, onward, Joins}
use Rattle.express.specs.Syntax.NodeKind.{entity, supertype_name}
use Rattle.express.specs.Syntax.Tree.{Table, count, kind, symbol, nodes, is_name_in, is_declaration, schema_of}
use Rattle.express.specs.Syntax.Grammar.{file}
use Rattle.express.specs.Syntax.Syntax.{Read}
use Rattle.express.specs.Names.Scope.{declarations_of, super_edges, renaming_edges, type_edges, inherited}
use Rattle.express.specs.Names.Fault.{type_name_fault}
use Rattle.express.specs.Names.Names.{Passes}
use Rattle.express.proofs.Names.Meaning.{edge_start, declarations_iff, no_members, inherited_iff}
use Rattle.express.proofs.Names.Owned.{nothing_inherited}
use Rattle.express.proofs.Names.TypeCycle.{from_entity}
use Rattle.graph.specs.Graph.{vertices, Arc}
use Rattle.graph.proofs.Arcs.{arc_source, arc_target}
use Rattle.scopes.specs.Entries.{vertex}
use Rattle.scopes.specs.Range.{vertex_count, node_of}
use Rattle.scopes.proofs.Ranges.{node_below, node_declares, node_number, number_below, number_node}
use Rattle.inheritance.specs.Steps.{TypeGraph, inherits_by}

-- ---- supertypes and arcs

super_target : (t : Table) (a b : ℕ) → Joins (super_edges t) a b → (b < count t) × (is_declaration t b ≡ true)
unfolding super_edges
super_target t a b e =
    let r = edge_start t (is_name_in t supertype_name) (declarations_of t) a b e in
    let c = (declarations_iff t (schema_of t r.0) (symbol t r.0) b).0 r.4 in
    (c.within, c.suits.0)

pub reached_declares : (t : Table) {a b : ℕ} → Reaches (Joins (super_edges t)) a b → (b < count t) × (is_declaration t b ≡ true)
reached_declares t (direct {a} {b} e) = super_target t a b e
reached_declares t (onward e r) = reached_declares t r

module _ {t : Table} {first to : List ℕ} (G : TypeGraph t first to) where
  vertices_are : vertices first ≡ vertex_count t
  vertices_are = omega (arith, G.long)

  arc_edge : (v w : ℕ) → Arc first to v w → Joins (type_edges t) (node_of t v) (node_of t w)
  arc_edge v w a =
      (G.arc_iff v w (omega (arith, arc_source a, vertices_are)) (omega (arith, arc_target G.graph a, vertices_are))).0 a

  pub vertex_reached : {v w : ℕ} → Reaches (Arc first to) v w → w < vertex_count t
  vertex_reached (direct a) = omega (arith, arc_target G.graph a, vertices_are)
  vertex_reached (onward a r) = vertex_reached r

  pub types_reached : {v w : ℕ} → Reaches (Arc first to) v w → Reaches (Joins (type_edges t)) (node_of t v) (node_of t w)
  types_reached (direct {a = v} {b = w} e) = direct (arc_edge v w e)
  types_reached (onward {a = v} {b = w} e r) = onward (arc_edge v w e) (types_reached r)

  super_arc : (a b : ℕ) → a < count t → is_declaration t a ≡ true → Joins (super_edges t) a b → Arc first to (vertex t a) (vertex t b)
  unfolding type_edges
  super_arc a b l h e =
      let y = super_target t a b e in
      let j : Joins (type_edges t) a b = Memᴰ.append_right (renaming_edges t) e in
      let j' : Joins (type_edges t) (node_of t (vertex t a)) (node_of t (vertex t b)) = rw (number_node t a l h, number_node t b y.0 y.1) j in
      (G.arc_iff (vertex t a) (vertex t b) (number_below t a l h) (number_below t b y.0 y.1)).1 j'

  arcs_reached : {a b : ℕ} → a < count t → is_declaration t a ≡ true → Reaches (Joins (super_edges t)) a b → Reaches (Arc first to) (vertex t a) (vertex t b)
  arcs_reached l h (direct {a} {b} e) = direct (super_arc a b l h e)
  arcs_reached l h (onward {a} {b} e r) = let y = super_target t a b e in onward (super_arc a b l h e) (arcs_reached y.0 y.1 r)

  module _ (v : ℕ) (l : v < vertex_count t) where
    from_number : {b : ℕ} → Reaches (Joins (super_edges t)) (node_of t v) b → Reaches (Arc first to) v (vertex t b)
    from_number r = let q = node_number t v l in rw q at (arcs_reached (node_below t v l) (node_declares t v l) r)

    -- without an arc nothing is inherited
    no_arcs : get_or first (v + 1) 0 ≤ get_or first v 0 → (s : ℕ) → inherited t (node_of t v) s ≡ []
    no_arcs h s = no_members (inherited t (node_of t v) s) (λ k m. none (from_number ((inherited_iff t (node_of t v) s k).0 m).suits.1))
      where
        none : {w : ℕ} → Reaches (Arc first to) v w → ⊥
        none (direct a) = omega (arith, a.from, a.upto)
        none (onward a r) = omega (arith, a.from, a.upto)

  module _ (d : Read file t) (right : Passes (nodes t) (type_name_fault t)) (v : ℕ) (l : v < vertex_count t) where
    pub inherits_nothing : inherits_by t.kinds first (node_of t v) v ≡ false → (s : ℕ) → inherited t (node_of t v) s ≡ []
    inherits_nothing e s = by (eqb (kind t (node_of t v)) entity) refl (ltb (get_or first v 0) (get_or first (v + 1) 0)) refl e
      where
        by : (a : Bool) → eqb (kind t (node_of t v)) entity ≡ a → (b : Bool) → ltb (get_or first v 0) (get_or first (v + 1) 0) ≡ b → (a && b) ≡ false
            → inherited t (node_of t v) s ≡ []
        by false p b q z = nothing_inherited d (node_of t v) s (eqb-false (kind t (node_of t v)) entity p)
        by true p false q z = no_arcs v l (ltb-false (get_or first v 0) (get_or first (v + 1) 0) q) s
        by true p true q z = absurd (false≢true (sym z))

    module _ (k : kind t (node_of t v) ≡ entity) where
      pub reached_iff : (o : ℕ) → o < count t → is_declaration t o ≡ true → Reaches (Arc first to) v (vertex t o) ↔ Reaches (Joins (super_edges t)) (node_of t v) o
      reached_iff o lo h = (
        λ r. let e = number_node t o lo h in (from_entity t right d (rw e at (types_reached r)) k).0,
        λ r. from_number v l r,
      )

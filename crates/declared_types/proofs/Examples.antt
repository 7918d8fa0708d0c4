-- A schema with an enumeration, a renaming of it, a select of both, a renaming of LOGICAL, an entity and three constants, computed; and that every
-- well-named file has an order of its declarations as the promise asks for it.
use mathlib.Core.Path.{◌≡◌, refl}
use mathlib.Core.Logic.{⊎_elim}
use mathlib.Core.Bool.{Bool, ◌||◌}
use mathlib.Core.List.Memᴰ
use mathlib.Core.List.{List, [], ◌∷◌, ◌++◌, Memᴰ}
use Prim.Native.Nat.{ℕ}
use lib.ListN.{replicate}
use Rattle.relations.specs.Select.{span, keep}
use Rattle.relations.specs.Reach.{Reaches, Joins}
use Rattle.relations.specs.Sorted.{Arranged}
use Rattle.relations.proofs.Select.{mem_upto, keep_mem, mem_keep}
use Rattle.relations.proofs.Topological.{acyclic_arranged}
use Rattle.express.specs.Syntax.NodeKind as node
use Rattle.express.specs.Syntax.Tree.{Table, count, symbol, is_name_in, is_declaration, nodes, schema_of}
use Rattle.express.specs.Tokens.Terminal.{the, LOGICAL}
use Rattle.express.specs.Names.Scope.{declarations_of, edges, renaming_edges, super_edges, type_edges}
use Rattle.express.specs.Names.Names.{WellNamed}
use Rattle.express.specs.Semantics.Declared.{simple}
use Rattle.express.proofs.Names.Meaning.{declarations_iff, edge_start, cyclic_fine}
use Rattle.declared_types.specs.Storing.{table_of, enumeration_number, base_number, type_number}
use Rattle.declared_types.specs.Storing.{type_items_stored, type_stored, constant_stored, types_stored, constants_stored}

-- node: 2 CONSTANT of the type 10; 6 CONSTANT of the type 16; 7 ENTITY; 10 TYPE, an enumeration; 12 TYPE, a renaming of 10; 16 TYPE, a select; 18 TYPE LOGICAL;
-- 21 CONSTANT of the type 12
small_file : Table
small_file =
    let name : ℕ = node.name in
    table_of (replicate 17 1 ++ (the LOGICAL ∷ []))
    (name ∷ name ∷ node.constant ∷ name ∷ name ∷ name ∷ node.constant ∷ node.entity ∷ node.enumeration_item ∷ node.enumeration ∷ node.type ∷ name ∷ node.type ∷ name ∷
    name ∷ node.select ∷ node.type ∷ node.simple_type ∷ node.type ∷ name ∷ name ∷ node.constant ∷ node.schema ∷ node.file ∷ [])
    (0 ∷ 0 ∷ 0 ∷ 0 ∷ 0 ∷ 0 ∷ 0 ∷ 0 ∷ 5 ∷ 0 ∷ 0 ∷ 8 ∷ 6 ∷ 13 ∷ 14 ∷ 0 ∷ 9 ∷ 17 ∷ 15 ∷ 0 ∷ 0 ∷ 0 ∷ 0 ∷ 0 ∷ [])
    (1 ∷ 1 ∷ 3 ∷ 1 ∷ 1 ∷ 1 ∷ 3 ∷ 1 ∷ 1 ∷ 2 ∷ 3 ∷ 1 ∷ 2 ∷ 1 ∷ 1 ∷ 3 ∷ 4 ∷ 1 ∷ 2 ∷ 1 ∷ 1 ∷ 3 ∷ 23 ∷ 24 ∷ [])

small_bindings : List ℕ
small_bindings = 11 ∷ 9 ∷ 0 ∷ 0 ∷ 17 ∷ 9 ∷ 0 ∷ 0 ∷ 0 ∷ 0 ∷ 0 ∷ 11 ∷ 0 ∷ 11 ∷ 13 ∷ 0 ∷ 0 ∷ 0 ∷ 0 ∷ 13 ∷ 9 ∷ 0 ∷ 0 ∷ 0 ∷ []

small_order : List ℕ
small_order = 2 ∷ 6 ∷ 7 ∷ 10 ∷ 12 ∷ 16 ∷ 18 ∷ 21 ∷ []

its_numbers :
    constants_stored small_file small_bindings small_order (types_stored small_file small_bindings small_order (replicate 24 99))
    ≡ 99 ∷ 99 ∷ 16 ∷ 99 ∷ 99 ∷ 99 ∷ 0 ∷ 99 ∷ 16 ∷ 99 ∷ 16 ∷ 99 ∷ 16 ∷ 99 ∷ 99 ∷ 99 ∷ 0 ∷ 99 ∷ 3 ∷ 99 ∷ 99 ∷ 16 ∷ 99 ∷ 99 ∷ []
unfolding small_file small_bindings small_order constants_stored types_stored constant_stored type_stored type_items_stored type_number base_number
    enumeration_number simple span
its_numbers = refl

-- where names are in order, the declarations have an order
module _ {t : Table} (W : WellNamed t) where
  abbrev declared : List ℕ
  declared = keep (is_declaration t) (nodes t)

  -- an edge leads to a declaration
  leads : (p : ℕ → Bool) (a b : ℕ) → Joins (edges t p (declarations_of t)) a b → Memᴰ b declared
  leads p a b e =
      let r = edge_start t p (declarations_of t) a b e in
      let k = (declarations_iff t (schema_of t r.0) (symbol t r.0) b).0 r.4 in
      mem_keep (is_declaration t) (nodes t) (mem_upto (count t) b k.within) k.suits.0

  closed : (a b : ℕ) → Joins (type_edges t) a b → Memᴰ b declared
  unfolding type_edges renaming_edges super_edges
  closed a b e =
      ⊎_elim (λ m. leads (λ n. is_name_in t node.renamed_type n || is_name_in t node.select_name n) a b m) (λ m. leads (is_name_in t node.supertype_name) a b m)
      (Memᴰ.append_cases (renaming_edges t) e)

  acyclic : (v : ℕ) → Memᴰ v declared → Reaches (Joins (type_edges t)) v v → ⊥
  acyclic v m r =
      let k = keep_mem (is_declaration t) (nodes t) m in
      (cyclic_fine t (is_declaration t) (type_edges t) v).0 (W.type_cycles v k.0) k.1 r

  pub type_order : (order : List ℕ) × Arranged (Joins (type_edges t)) (keep (is_declaration t) (nodes t)) order
  type_order = (_, acyclic_arranged (type_edges t) declared (λ a b e m. closed a b e) acyclic)

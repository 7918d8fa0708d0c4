-- The stores of items, types and constants leave the column of declared types. Assumes nothing.
use mathlib.Core.Path.{◌≡◌, refl, sym, ◌∙◌}
use mathlib.Core.Bool.{Bool, true, false, cond, false≢true}
use mathlib.Core.List.{List, Memᴰ}
use Prim.Native.Nat.{ℕ, ◌+◌, ◌≤◌, ◌<◌}
use native.Mathlib.Omega.{arith}
use borrow.Author.Tests.{eqb-true, eq-eqb, le-leb}
use lib.ListN.{length, get_or}
use Rattle.ebnf.specs.Set.{mem}
use Rattle.relations.specs.Select.{keep}
use Rattle.relations.specs.Reach.{Joins}
use Rattle.relations.specs.Sorted.{Arranged}
use Rattle.relations.proofs.Select.{untrue, keep_mem, mem_keep, mem_upto, upto_mem}
use Rattle.express.specs.Syntax.NodeKind as node
use Rattle.express.specs.Syntax.Tree.{Table, count, kind, terminal, first, is, is_declaration, nodes, type_node, owner}
use Rattle.express.specs.Syntax.Grammar.{file}
use Rattle.express.specs.Syntax.Syntax.{Read}
use Rattle.express.specs.Names.Scope.{bindings, type_edges}
use Rattle.express.specs.Names.Names.{WellNamed}
use Rattle.express.specs.Semantics.Declared.{Declared, enumeration, other, declaration, bound, simple, renames, denoted}
use Rattle.express.specs.Semantics.DeclaredColumn.{declared_number, DeclaredColumn}
use Rattle.express.proofs.Syntax.FormedRows.{formed_rows}
use Rattle.express.proofs.Semantics.Denotes.{denoted_step, bound_is, bound_name, type_below, renaming_edge, base_known}
use Rattle.declared_types.specs.Storing.{last_node, enumeration_number, base_number, type_number}
use Rattle.declared_types.specs.Storing.{constant_stored, constants_stored}
use Rattle.declared_types.proofs.Apart.{items_stored, numbers_stored}
use Rattle.declared_types.proofs.Sorting.{Stored, Sound, list_stored, independent}
use Rattle.declared_types.proofs.Items.{item_stored, nodes_of_types, in_type, all_types, item_there, type_node_below}

-- a node of a kind is of no other
is_other : (t : Table) (j k n : ℕ) → (j ≡ k → ⊥) → is t j n ≡ true → is t k n ≡ false
is_other t j k n d h = untrue (is t k n) (λ g. d (sym (eqb-true (kind t n) j h) ∙ eqb-true (kind t n) k g))

-- what a type is declared as
abbrev type_declared : Table → List ℕ → ℕ → Declared
type_declared t b d = cond (is t node.enumeration_item (first t d)) (enumeration d) (cond (renames t d) (denoted t b (first t d)) other)

module _ {t : Table} (R : Read file t) (W : WellNamed t) (few : count t + 6 < 4294967296) where
  abbrev b : List ℕ
  b = bindings t

  abbrev wanted : ℕ → ℕ
  wanted d = declared_number (type_declared t b d)

  numbered : (y : ℕ) → y ≤ count t → enumeration_number y ≡ y + 6
  unfolding enumeration_number
  numbered y l = rw (le-leb y last_node (omega arith))

  -- what a node is or names, where the type that it names has its number
  base_right :
      (c : List ℕ) (n : ℕ) → n < count t → is t node.type n ≡ false → (bound t b node.type n ≡ true → get_or c (declaration b n) 0 ≡ wanted (declaration b n)) →
      base_number t b c n ≡ declared_number (denoted t b n)
  unfolding base_number
  base_right c n l h has = rw (denoted_step R W n l h) (by (is t node.simple_type n) (bound t b node.type n) refl)
    where
      by : (p q : Bool) → bound t b node.type n ≡ q →
          cond p (declared_number (simple (terminal t n))) (cond q (get_or c (declaration b n) 0) 0)
          ≡ declared_number (cond p (simple (terminal t n)) (cond q (type_declared t b (declaration b n)) other))
      by true q e = refl
      by false true e = has e
      by false false e = refl

  -- ---- types

  types_sound : (was : List ℕ) → Sound (Joins (type_edges t)) (is t node.type) (type_number t b) wanted was
  unfolding type_number
  types_sound was c d h others before = by (is t node.enumeration_item (first t d)) (renames t d) refl
    where
      renamed : renames t d ≡ true → base_number t b c (first t d) ≡ declared_number (denoted t b (first t d))
      renamed r =
          let k = base_known R W d h r in
          base_right c (first t d) k.0 k.1 (λ i. before (declaration b (first t d)) (renaming_edge R W d h i) (bound_is R W (first t d) node.type i))

      by : (p q : Bool) → renames t d ≡ q →
          cond p (enumeration_number d) (cond q (base_number t b c (first t d)) 0) ≡ declared_number (cond p (enumeration d) (cond q (denoted t b (first t d)) other))
      by true q e = let l = type_below R W d h in numbered d (omega arith)
      by false true e = renamed e
      by false false e = refl

  -- ---- constants

  -- what was stored for types is not touched by the stores of constants
  constants_sound :
      (was : List ℕ) → Sound (λ n m. ⊥) (is t node.constant) (λ c n. base_number t b c (type_node t n)) (λ n. base_number t b was (type_node t n)) was
  unfolding base_number
  constants_sound was c d h others before = by (is t node.simple_type n) (bound t b node.type n) refl
    where
      n : ℕ
      n = type_node t d

      by : (p q : Bool) → bound t b node.type n ≡ q →
          cond p (declared_number (simple (terminal t n))) (cond q (get_or c (declaration b n) 0) 0)
          ≡ cond p (declared_number (simple (terminal t n))) (cond q (get_or was (declaration b n) 0) 0)
      by true q e = refl
      by false false e = refl
      by false true e =
          others (declaration b n) (is_other t node.type node.constant (declaration b n) (λ (z : ◌≡◌ {A = ℕ} 18 17). omega arith) (bound_is R W n node.type e))

  -- the type of a constant is a node, and no type itself
  type_node_known : (c : ℕ) → c < count t → kind t c ≡ node.constant → (type_node t c < count t) × (is t node.type (type_node t c) ≡ false)
  unfolding mem
  type_node_known c l e =
      let B = ((formed_rows R).constant c l e).base in
      (omega arith, untrue (is t node.type (type_node t c)) (λ h. false≢true (rw (eqb-true (kind t (type_node t c)) node.type h) at B)))

  module _ {order : List ℕ} (A : Arranged (Joins (type_edges t)) (keep (is_declaration t) (nodes t)) order) (column : List ℕ) (room : count t ≤ length column) where
    abbrev with_items : List ℕ
    with_items = items_stored t order column

    abbrev with_types : List ℕ
    with_types = numbers_stored t b order with_items

    abbrev with_constants : List ℕ
    with_constants = constants_stored t b order with_types

    -- the declarations of the order are nodes
    below : (n : ℕ) → Memᴰ n order → n < count t
    below n m = upto_mem (count t) n (keep_mem (is_declaration t) (nodes t) (A.among n m)).0

    there : (n : ℕ) → n < count t → is_declaration t n ≡ true → Memᴰ n order
    there n l h = A.complete n (mem_keep (is_declaration t) (nodes t) (mem_upto (count t) n l) h)

    abbrev Items : List ℕ → Type 0
    Items =
        Stored (λ n m. ⊥) (is t node.enumeration_item) (λ c n. enumeration_number (owner t n)) (λ n. enumeration_number (owner t n)) column
        (λ n. Memᴰ n (nodes_of_types t order))

    items_right : Items with_items
    unfolding item_stored
    items_right =
        rw (all_types R order below column)
        (list_stored (λ n m. ⊥) (is t node.enumeration_item) (λ c n. enumeration_number (owner t n)) (λ n. enumeration_number (owner t n)) column
        (λ c n h o e. refl) (independent (nodes_of_types t order)) (λ n m. let l = type_node_below t order below n m in omega arith))

    abbrev Types : List ℕ → Type 0
    Types = Stored (Joins (type_edges t)) (is t node.type) (type_number t b) wanted with_items (λ n. Memᴰ n order)

    types_right : Types with_types
    unfolding numbers_stored
    types_right =
        list_stored (Joins (type_edges t)) (is t node.type) (type_number t b) wanted with_items (types_sound with_items) A.sorted
        (λ n m. let k = below n m in let g = items_right.long in omega arith)

    abbrev Constants : List ℕ → Type 0
    Constants =
        Stored (λ n m. ⊥) (is t node.constant) (λ c n. base_number t b c (type_node t n)) (λ n. base_number t b with_types (type_node t n)) with_types
        (λ n. Memᴰ n order)

    constants_right : Constants with_constants
    unfolding constants_stored constant_stored
    constants_right =
        list_stored (λ n m. ⊥) (is t node.constant) (λ c n. base_number t b c (type_node t n)) (λ n. base_number t b with_types (type_node t n)) with_types
        (constants_sound with_types) (independent order)
        (λ n m. let k = below n m in let g = items_right.long in let h = types_right.long in omega arith)

    -- a type that a name is bound to has its number
    type_there : (n : ℕ) → bound t b node.type n ≡ true → get_or with_types (declaration b n) 0 ≡ wanted (declaration b n)
    type_there n i =
        let h = bound_is R W n node.type i in
        let l = type_below R W (declaration b n) h in
        types_right.right (declaration b n)
        (there (declaration b n) l (rw (eqb-true (kind t (declaration b n)) node.type h))) h

    type_named : (n : ℕ) → n < count t → bound t b node.type n ≡ true → get_or with_types (declaration b n) 0 ≡ declared_number (denoted t b n)
    unfolding base_number
    type_named n l i =
        let m = bound_name R W n l i in
        let y = is_other t node.name node.type n (λ (z : ◌≡◌ {A = ℕ} 6 18). omega arith) m in
        let s = is_other t node.name node.simple_type n (λ (z : ◌≡◌ {A = ℕ} 6 13). omega arith) m in
        rw (s, i) at (base_right with_types n l y (λ i. type_there n i))

    pub column_declared : DeclaredColumn t (bindings t) with_constants
    column_declared = record {
      constants = λ c l e.
          let k = type_node_known c l e in
          constants_right.right c (there c l (rw e)) (eq-eqb (kind t c) node.constant e)
          ∙ base_right with_types (type_node t c) k.0 k.1 (λ i. type_there (type_node t c) i);
      types = λ n l i.
          constants_right.others (declaration b n)
          (is_other t node.type node.constant (declaration b n) (λ (z : ◌≡◌ {A = ℕ} 18 17). omega arith) (bound_is R W n node.type i))
          ∙ type_named n l i;
      items = λ m l e.
          let h = eq-eqb (kind t m) node.enumeration_item e in
          let I = in_type R m l e in
          let o = I.known in
          constants_right.others m (is_other t node.enumeration_item node.constant m (λ (z : ◌≡◌ {A = ℕ} 14 17). omega arith) h)
          ∙ (types_right.others m (is_other t node.enumeration_item node.type m (λ (z : ◌≡◌ {A = ℕ} 14 18). omega arith) h)
          ∙ (items_right.right m (item_there R order m l e (there (owner t m) o (rw I.is_type))) h ∙ numbered (owner t m) (omega arith)));
    }

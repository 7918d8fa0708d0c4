-- What a name means (N1 to N18).
use Rattle.std.specs.Prelude.{Bool, cond, ◌&&◌, ◌||◌, ℕ, ◌+◌, ◌-◌, eqb}
use mathlib.Core.List.{List, [], ◌∷◌, ◌++◌, map, flat_map}
use Rattle.express.specs.Syntax.NodeKind.{name, qualified_item, enumeration_item, in_expression, renamed_type, select_name, supertype_name}
use Rattle.relations.specs.Select.{keep, nearest}
use Rattle.express.specs.Syntax.Tree.{Table, token, symbol, symbol_at, nodes, is, is_name_in, is_declaration, is_attribute, is_scope_member, owner, schema_of}
use Rattle.relations.specs.Reach.{Edge, edge, reaches}

-- N1: the nodes spelled like s that pass a test, wherever they stand in the text
abbrev pub spelled : Table → ℕ → (ℕ → Bool) → List ℕ
spelled t s p = keep (λ k. eqb (symbol t k) s && p k) (nodes t)

-- ---- in a schema

-- N4: a schema h sees what is declared in it, and nothing of another
abbrev pub visible : Table → ℕ → ℕ → Bool
visible t h k = eqb (schema_of t k) h

-- THE LOOK-UP of a symbol in a schema (N1): its constants, types and entities
unfoldable pub declarations : Table → ℕ → ℕ → List ℕ
declarations t h s = spelled t s (λ k. is_declaration t k && visible t h k)

-- N10, the level `items`: those of all its enumerations
unfoldable pub items : Table → ℕ → ℕ → List ℕ
items t h s = spelled t s (λ k. is t enumeration_item k && visible t h k)

-- the declarations of its schema that the name at a node may mean: names of types and supertypes are looked up there alone (N5)
abbrev pub declarations_of : Table → ℕ → List ℕ
declarations_of t n = declarations t (schema_of t n) (symbol t n)

-- ---- in a declaration

-- N10, the level `own`: the attributes and labels of a declaration d itself
unfoldable pub own : Table → ℕ → ℕ → List ℕ
own t d s = spelled t s (λ k. is_scope_member t k && eqb (owner t k) d)

-- N7: edges from the declarations in which some names stand to what these mean
abbrev pub edges : Table → (ℕ → Bool) → (ℕ → List ℕ) → List Edge
edges t p meant = flat_map (λ n. map (edge (owner t n)) (meant n)) (keep p (nodes t))

-- N7, N9: from entities to their supertypes; inheritance goes by these alone, so that a select of an entity inherits nothing
unfoldable pub super_edges : Table → List Edge
super_edges t = edges t (is_name_in t supertype_name) (declarations_of t)

-- N7: from types to the types and entities that they rename or select
unfoldable pub renaming_edges : Table → List Edge
renaming_edges t = edges t (λ n. is_name_in t renamed_type n || is_name_in t select_name n) (declarations_of t)

-- N8: of both sorts; no cycle runs over both (`type_cycle` of proofs/names/TypeCycle)
unfoldable pub type_edges : Table → List Edge
type_edges t = renaming_edges t ++ super_edges t

-- N9: the attributes of all that d reaches over supertypes; one that is reached on several ways stands here once
unfoldable pub inherited : Table → ℕ → ℕ → List ℕ
inherited t d s = spelled t s (λ k. is_attribute t k && reaches (super_edges t) d (owner t k))

-- ---- of a name in an expression

-- G35: a name that stands for a value
abbrev pub is_use : Table → ℕ → Bool
is_use t n = is_name_in t in_expression n

-- N10, what is nearest: an own attribute or label, then an inherited attribute, then a declaration of the schema, then an item. In a type's WHERE nothing
-- is inherited, and in a constant nothing is own either (`nothing_inherited`, `nothing_own` of proofs/names/Owned).
unfoldable pub candidates : Table → ℕ → ℕ → List ℕ
candidates t n s =
    nearest (own t (owner t n) s)
    (nearest (inherited t (owner t n) s) (nearest (declarations t (schema_of t n) s) (items t (schema_of t n) s)))

-- N11: of some candidates, each of which stands in the list once: there is none, one, or there are several (proofs/names/Meaning)
pub data Meaning : Type 0 where
  none several : Meaning
  one : ℕ → Meaning

-- N11: no declaration, one, or several
abbrev pub meaning : List ℕ → Meaning
meaning [] = none
meaning (k ∷ []) = one k
meaning (k ∷ l ∷ ks) = several

-- N13, N14, `type.item`: the type's name stands two tokens before the item; the item is looked up in that type
abbrev pub type_token : Table → ℕ → ℕ
type_token t n = token t n - 2

-- N13
unfoldable pub type_meant : Table → ℕ → Meaning
type_meant t n = meaning (declarations t (schema_of t n) (symbol_at t (type_token t n)))

-- N14: the item is looked up in that enumeration alone
unfoldable pub items_of : Table → ℕ → ℕ → List ℕ
items_of t y s = spelled t s (λ k. is t enumeration_item k && eqb (owner t k) y)

unfoldable pub item_meant : Table → ℕ → Meaning → Meaning
item_meant t s none = none
item_meant t s several = none
item_meant t s (one y) = meaning (items_of t y s)

-- What names mean by their spellings alone, in a schema h: a name in an expression where nothing is own or inherited, as in a constant, and `type.item`
-- of the two spellings y and s. For an expression that stands in no file it is all there is (`constant_means`, `qualified_means` of proofs/names/Owned).
abbrev pub value_meant : Table → ℕ → ℕ → Meaning
value_meant t h s = meaning (nearest (declarations t h s) (items t h s))

abbrev pub qualified_meant : Table → ℕ → ℕ → ℕ → Meaning
qualified_meant t h y s = item_meant t s (meaning (declarations t h y))

-- N5, N10, N14: the meaning of any name; other nodes mean nothing
unfoldable pub means : Table → ℕ → Meaning
means t n =
    cond (is_use t n) (meaning (candidates t n (symbol t n)))
    (cond (is t name n) (meaning (declarations_of t n))
    (cond (is t qualified_item n) (item_meant t (symbol t n) (type_meant t n)) none))

-- N18: a binding is one more than the node of the declaration, or 0: SELF and what is no name have 0
abbrev pub binding_of : Meaning → ℕ
binding_of none = 0
binding_of several = 0
binding_of (one k) = k + 1

unfoldable pub binding : Table → ℕ → ℕ
binding t n = binding_of (means t n)

unfoldable pub bindings : Table → List ℕ
bindings t = map (binding t) (nodes t)

-- Replies 9 to 13: what is wrong with a node, for each stage (N19).
use Rattle.std.specs.Prelude.{Bool, true, cond, not, ◌&&◌, ◌||◌, List, [], ◌∷◌, ℕ, eqb, leb}
use Rattle.express.specs.Syntax.NodeKind.{name, qualified_item, self, enumeration_item, constant, type, entity, schema, renamed_type, supertype_name}
use Rattle.relations.specs.Select.{span, any, empty}
use Rattle.express.specs.Syntax.Tree.{Table, role, symbol, place, place_at, first, is, is_name_in, is_declaration, is_attribute, is_scope_member, owner, schema_of, in_constant}
use Rattle.relations.specs.Reach.{Edge, reaches}
use Rattle.express.specs.Names.Scope.{Meaning, none, one, several, means, is_use, inherited, edges, type_token, type_meant}

-- a reply (R2) and a place; reply 0: no fault
pub record Fault : Type 0 where
  pub number : ℕ
  pub place : ℕ

abbrev pub fault : ℕ → ℕ → Fault
fault k p = record { number = k; place = p }

abbrev pub fine : Fault
fine = fault 0 0

-- N2, N3: 9, declared twice in one scope. What a node declares: nothing, a schema, a constant, type or entity, an item, an attribute or a label, or a
-- supertype in a list
abbrev pub no_sort : ℕ
no_sort = 0

abbrev pub schema_sort : ℕ
schema_sort = 1

abbrev pub declaration_sort : ℕ
declaration_sort = 2

abbrev pub item_sort : ℕ
item_sort = 3

abbrev pub member_sort : ℕ
member_sort = 4

abbrev pub supertype_sort : ℕ
supertype_sort = 5

unfoldable pub sort : Table → ℕ → ℕ
sort t n =
    cond (is t schema n) schema_sort
    (cond (is_declaration t n) declaration_sort
    (cond (is t enumeration_item n) item_sort (cond (is_scope_member t n) member_sort (cond (is_name_in t supertype_name n) supertype_sort no_sort))))

-- N2: and the scope in which it must differ from all of its sort: the file, the schema, or the type or entity
unfoldable pub scope : Table → ℕ → ℕ
scope t n = cond (leb (sort t n) schema_sort) 0 (cond (eqb (sort t n) declaration_sort) (schema_of t n) (owner t n))

-- N2: two of one scope that are spelled alike
abbrev pub alike : Table → ℕ → ℕ → Bool
alike t n k = eqb (symbol t k) (symbol t n) && eqb (sort t k) (sort t n) && eqb (scope t k) (scope t n)

-- N3: at the later of the two; of two nodes of one sort the later stands later in the text (`repeated_iff` of proofs/names/Later)
unfoldable pub repeated : Table → ℕ → Fault
repeated t n = cond (not (eqb (sort t n) no_sort) && any (alike t n) (span 0 n)) (fault 9 (place t n)) fine

-- N6, N11, N12: 10, not found; 11, found but not of the right sort; 12, two meanings: of a name at place p that must mean a node that passes a test
abbrev pub judged : (ℕ → Bool) → Meaning → ℕ → Fault
judged right none p = fault 10 p
judged right several p = fault 12 p
judged right (one k) p = cond (right k) fine (fault 11 p)

-- N12: what has a value
abbrev pub is_value : Table → ℕ → Bool
is_value t k = is_attribute t k || is t constant k || is t enumeration_item k

-- N6: by the role of a name of a type; a constant's or an attribute's type, and what a select names, is a type or an entity
abbrev pub suits : Table → ℕ → ℕ → Bool
suits t r k = cond (eqb r renamed_type) (is t type k) (cond (eqb r supertype_name) (is t entity k) (is t type k || is t entity k))

-- WHAT THE NAME n MAY MEAN (N6, N12)
abbrev pub right : Table → ℕ → ℕ → Bool
right t n k = cond (is_use t n) (is_value t k) (suits t (role t n) k)

abbrev pub named_fault : Table → ℕ → Fault
named_fault t n = judged (right t n) (means t n) (place t n)

-- N5, N6
unfoldable pub type_name_fault : Table → ℕ → Fault
type_name_fault t n = cond (is t name n && not (is_use t n)) (named_fault t n) fine

-- N8: 13, a cycle over some edges: of each node on one that passes a test, its name
unfoldable pub cyclic : Table → (ℕ → Bool) → List Edge → ℕ → Fault
cyclic t p es n = cond (p n && reaches es n n) (fault 13 (place t n)) fine

-- N13: a type is declared as an enumeration if its first node is an item: the first node of no other type is one (`enumeration_iff` of
-- proofs/names/Enumeration).
abbrev pub is_enumeration : Table → ℕ → Bool
is_enumeration t y = is t type y && is t enumeration_item (first t y)

-- a fault of the second only where there is none of the first
abbrev pub or_later : Fault → Fault → Fault
or_later f g = cond (eqb f.number 0) g f

-- N13, N14: the type must be an enumeration, at its name; and the item is looked up in it
-- N13 at the type's name, then N14 at the item
unfoldable pub qualified : Table → ℕ → Fault
qualified t n =
    or_later (judged (is_enumeration t) (type_meant t n) (place_at t (type_token t n))) (judged (λ k. true) (means t n) (place t n))

-- N16: an own attribute or label that is spelled like an inherited attribute
abbrev pub clashes : Table → ℕ → Bool
clashes t n = is_scope_member t n && not (empty (inherited t (owner t n) (symbol t n)))

-- of names in expressions, of SELF in a constant (N15), and of clashes
-- the stage of expressions: N11 to N16
unfoldable pub expression : Table → ℕ → Fault
expression t n =
    cond (is_use t n) (named_fault t n)
    (cond (is t qualified_item n) (qualified t n)
    (cond (is t self n && in_constant t n) (fault 11 (place t n)) (cond (clashes t n) (fault 12 (place t n)) fine)))

-- N17: from constants to the constants that their expressions name
abbrev pub constants_meant : Table → Meaning → List ℕ
constants_meant t none = []
constants_meant t several = []
constants_meant t (one k) = cond (is t constant k) (k ∷ []) []

unfoldable pub constant_edges : Table → List Edge
constant_edges t = edges t (λ n. is_use t n && in_constant t n) (λ n. constants_meant t (means t n))

-- What a file declares, as the entries of one dictionary: a node, and the key under which it is found.
use Rattle.std.specs.Prelude.{Bool, cond, not, ◌||◌, List, ◌++◌, map, ℕ, ◌+◌, ◌*◌, eqb, length}
use Rattle.relations.specs.Select.{span, keep}
use Rattle.express.specs.Syntax.Tree.{Table, count, symbol, nodes, is_declaration}
use Rattle.express.specs.Names.Fault.{sort, scope}

-- The sorts of keys: those of what a node declares (`sort` of express, specs/names/Fault).
abbrev pub none : ℕ
none = 0

abbrev pub schemas : ℕ
schemas = 1

abbrev pub declared : ℕ
declared = 2

abbrev pub items_of_types : ℕ
items_of_types = 3

abbrev pub members : ℕ
members = 4

abbrev pub supertypes : ℕ
supertypes = 5

-- and a number above them all
abbrev pub sorts : ℕ
sorts = 8

-- the nodes and the symbols of a file are below this number
abbrev pub radix : ℕ
radix = 131072

-- a sort, a scope and a symbol in one number
unfoldable pub key_of : ℕ → ℕ → ℕ → ℕ
key_of sort scope symbol = (sort * radix + scope) * radix + symbol

pub record Entry : Type 0 where
  pub node : ℕ
  pub key : ℕ

-- under what it declares, in the scope in which that must differ from all of its sort
abbrev pub own_key : Table → ℕ → ℕ
own_key t n = key_of (sort t n) (scope t n) (symbol t n)

abbrev pub own_entry : Table → ℕ → Entry
own_entry t n = record { node = n; key = own_key t n }

-- a sort of what declares something and is no constant, type or entity
abbrev pub is_other : ℕ → Bool
is_other s = not (eqb s none || eqb s declared)

abbrev pub declares_other : Table → ℕ → Bool
declares_other t n = is_other (sort t n)

-- What declares something: the constants, types and entities first, so that the number of such an entry is its number among these; then all others.
abbrev pub declaring : Table → List ℕ
declaring t = keep (is_declaration t) (nodes t) ++ keep (declares_other t) (nodes t)

-- one entry for each
unfoldable pub entries : Table → List Entry
entries t = map (own_entry t) (declaring t)

-- the nodes of the entries that have a key
unfoldable pub with_key : ℕ → List Entry → List ℕ
with_key k es = map (λ (e : Entry). e.node) (keep (λ (e : Entry). eqb e.key k) es)

-- how many constants, types and entities there are before a node: of one of these, the number of its entry
unfoldable pub vertex : Table → ℕ → ℕ
vertex t n = length (keep (is_declaration t) (span 0 n))

-- how many other entries there are before that of a node
unfoldable pub others_before : Table → ℕ → ℕ
others_before t n = length (keep (declares_other t) (span 0 n))

-- the number of the entry of what a node declares
unfoldable pub entry_number : Table → ℕ → ℕ
entry_number t n = cond (is_declaration t n) (vertex t n) (vertex t (count t) + others_before t n)

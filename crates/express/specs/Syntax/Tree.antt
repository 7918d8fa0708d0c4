-- The tables of a file: its bytes, a row for each token (T18) and a row for each node (G31), as columns; nodes in post-order (G30).
use Rattle.std.specs.Prelude.{Bool, ◌&&◌, ◌||◌, List, ℕ, ◌+◌, ◌-◌, eqb, leb, length, get_or}
use Rattle.express.specs.Syntax.NodeKind.{name, constant, type, attribute_name, derived_attribute, rule, entity, schema, labelled}
use Rattle.relations.specs.Select.{span, first_from}

pub record Table : Type 0 where
  pub bytes : List ℕ
  -- of each token: its first byte, its length, its terminal (T20), and its symbol: of an identifier the least that is spelled alike (T3)
  pub starts : List ℕ
  pub lengths : List ℕ
  pub terminals : List ℕ
  pub symbols : List ℕ
  -- of each node: its kind (G32), its naming token, its size (G31) and its role (G35)
  pub kinds : List ℕ
  pub tokens : List ℕ
  pub sizes : List ℕ
  pub roles : List ℕ

-- how many nodes there are
abbrev pub count : Table → ℕ
count t = length t.kinds

abbrev pub kind : Table → ℕ → ℕ
kind t n = get_or t.kinds n 0

abbrev pub token : Table → ℕ → ℕ
token t n = get_or t.tokens n 0

abbrev pub size : Table → ℕ → ℕ
size t n = get_or t.sizes n 0

abbrev pub role : Table → ℕ → ℕ
role t n = get_or t.roles n 0

-- of a token: its symbol, its place in the text
abbrev pub symbol_at : Table → ℕ → ℕ
symbol_at t i = get_or t.symbols i 0

abbrev pub place_at : Table → ℕ → ℕ
place_at t i = get_or t.starts i 0

-- of a node's naming token (G31): its terminal, its symbol, its place in the text
abbrev pub terminal : Table → ℕ → ℕ
terminal t n = get_or t.terminals (token t n) 0

abbrev pub symbol : Table → ℕ → ℕ
symbol t n = symbol_at t (token t n)

abbrev pub place : Table → ℕ → ℕ
place t n = place_at t (token t n)

-- the last child of a node stands just before it (G30)
abbrev pub last : ℕ → ℕ
last n = n - 1

-- G30: the child before a child
abbrev pub before : Table → ℕ → ℕ
before t n = n - size t n

-- G30: the first node of a subtree
abbrev pub first : Table → ℕ → ℕ
first t n = n + 1 - size t n

-- all nodes of a subtree
abbrev pub within : Table → ℕ → List ℕ
within t n = span (first t n) (size t n)

-- The children of a node, from the right: an operator's right (or only) operand is `last`, and an interval's high side.
abbrev pub left : Table → ℕ → ℕ
left t n = before t (last n)

-- the type of a declaration that has an expression: it stands before that
abbrev pub type_node : Table → ℕ → ℕ
type_node t d = left t d

-- an interval has five children: low side, operator, item, operator, high side; its operators are `lower` and `upper`
abbrev pub upper : Table → ℕ → ℕ
upper t n = left t n

abbrev pub middle : Table → ℕ → ℕ
middle t n = before t (upper t n)

abbrev pub lower : Table → ℕ → ℕ
lower t n = before t (middle t n)

abbrev pub low : Table → ℕ → ℕ
low t n = before t (lower t n)

abbrev pub nodes : Table → List ℕ
nodes t = span 0 (count t)

abbrev pub is : Table → ℕ → ℕ → Bool
is t k n = eqb (kind t n) k

-- G35: a name in a role
abbrev pub is_name_in : Table → ℕ → ℕ → Bool
is_name_in t r n = is t name n && eqb (role t n) r

-- N2: what a schema declares, beside the items of its enumerations
abbrev pub is_declaration : Table → ℕ → Bool
is_declaration t n = is t constant n || is t type n || is t entity n

-- N2: an attribute, explicit or derived
abbrev pub is_attribute : Table → ℕ → Bool
is_attribute t n = is t attribute_name n || is t derived_attribute n

-- N2: what an entity or a type declares in itself: attributes, and the labels of rules
abbrev pub is_scope_member : Table → ℕ → Bool
is_scope_member t n = is_attribute t n || is t rule n && eqb (role t n) labelled

-- N2: the constant, type or entity that a node is or lies in, and its schema: each stands after all that lies in it (G30), and none lies in
-- another of its sort, so it is the first at or after the node; there is none at or after the number of nodes
unfoldable pub owner : Table → ℕ → ℕ
owner t n = first_from (is_declaration t) n (count t - n)

unfoldable pub schema_of : Table → ℕ → ℕ
schema_of t n = first_from (is t schema) n (count t - n)

-- node n is a constant or lies in one: the declaration that is first at or after n is a constant, and n is one of its nodes (the node of a
-- schema is not, though a constant may be the next declaration)
abbrev pub in_constant : Table → ℕ → Bool
in_constant t n = is t constant (owner t n) && leb (first t (owner t n)) n

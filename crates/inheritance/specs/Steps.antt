-- What the inner functions go by.
use Rattle.std.specs.Prelude.{◌≡◌, ◌↔◌, Bool, true, false, cond, ◌&&◌, ◌||◌, List, ℕ, ◌+◌, ◌-◌, ◌≤◌, ◌<◌, eqb, ltb, length, get_or}
use Rattle.relations.specs.Reach.{Joins}
use Rattle.express.specs.Syntax.NodeKind.{name, entity, in_expression}
use Rattle.express.specs.Syntax.Tree.{Table, count}
use Rattle.express.specs.Names.Scope.{type_edges}
use Rattle.graph.specs.Graph.{Graph, Arc}
use Rattle.scopes.specs.Standing.{is_member}
use Rattle.scopes.specs.Range.{vertex_count, node_of, range_start}
use Rattle.symbol_tables.specs.Entry.{stamp_of, says}
use Rattle.symbol_tables.specs.Table.{symbol_in}
use Rattle.attributes.specs.Attributes.{Offsets}
use Rattle.inheritance.specs.Inheritance.{asks, inherited_code, ColumnsOf, Inheriting, InheritanceRoom}

-- ---- the graph

-- the graph of the types and entities of a file (N7), its vertices numbered as its declarations are
pub record TypeGraph (t : Table) (first to : List ℕ) : Type 0 where
  pub long : length first ≡ vertex_count t + 1
  pub graph : Graph first to
  pub arc_iff : (v w : ℕ) → v < vertex_count t → w < vertex_count t → Arc first to v w ↔ Joins (type_edges t) (node_of t v) (node_of t w)

-- an entity with an arc
abbrev pub inherits_by : List ℕ → List ℕ → ℕ → ℕ → Bool
inherits_by kinds first node vertex = eqb (get_or kinds node 0) entity && ltb (get_or first vertex 0) (get_or first (vertex + 1) 0)

-- ---- what is stored

-- of a kind and a role: what `asks` says of a node that has them
abbrev pub asks_by : ℕ → ℕ → Bool
asks_by kind role = (eqb kind name && eqb role in_expression) || is_member kind role

-- at each node from lo up to hi that asks a number that suits it; all else is as it was
pub record StoresEach (kinds roles : List ℕ) (Suits : ℕ → ℕ → Type 0) (lo hi : ℕ) (bound bound' : List ℕ) : Type 0 where
  pub stored : (n : ℕ) → lo ≤ n → n < hi → n < length bound → asks_by (get_or kinds n 0) (get_or roles n 0) ≡ true → Suits n (get_or bound' n 0)
  pub other : (n : ℕ) → asks_by (get_or kinds n 0) (get_or roles n 0) ≡ false → get_or bound' n 0 ≡ get_or bound n 0
  pub before : (n : ℕ) → n < lo → get_or bound' n 0 ≡ get_or bound n 0
  pub behind : (n : ℕ) → hi ≤ n → get_or bound' n 0 ≡ get_or bound n 0

-- what the table says
abbrev pub Stores : List ℕ → List ℕ → List ℕ → List ℕ → List ℕ → ℕ → ℕ → ℕ → List ℕ → List ℕ → Type 0
Stores kinds tokens roles symbols table stamp = StoresEach kinds roles (λ n x. x ≡ says table stamp (symbol_in tokens symbols n))

-- ---- vertex by vertex, from the last to the first

-- `inheriting`: from a number on no declaration inherits
pub record NoneInherits (kinds nodes first : List ℕ) (r : ℕ) : Type 0 where
  pub upto : r ≤ length first - 1
  pub none : (v : ℕ) → r ≤ v → v < length first - 1 → inherits_by kinds first (get_or nodes v 0) v ≡ false

-- the nodes of a vertex and those behind them have what they inherit, and those before are as they were
pub record StoredFrom (t : Table) (was : List ℕ) (v : ℕ) (bound : List ℕ) : Type 0 where
  pub stored : (n : ℕ) → n < count t → range_start t v ≤ n → get_or bound n 0 ≡ cond (asks t n) (inherited_code t n) (get_or was n 0)
  pub before : (n : ℕ) → n < range_start t v → get_or bound n 0 ≡ get_or was n 0

-- Done from a vertex on: what is inherited is stored, the offsets stand, and no mark, and no entry of the table, has a stamp that comes later.
pub record Done (t : Table) (was : List ℕ) (v : ℕ) (table mark bound : List ℕ) : Type 0 where
  pub offsets : Offsets t table
  pub unused : (k s : ℕ) → 0 < s → s ≤ v → stamp_of (get_or table k 0) ≡ s → ⊥
  pub fresh : (k s : ℕ) → 0 < s → s ≤ v → get_or mark k 0 ≡ s → ⊥
  pub from : StoredFrom t was v bound

-- one vertex more
pub record InheritsIn (kinds tokens roles symbols entry_keys entry_nodes first to : List ℕ) (v : ℕ) (table mark queue bound table' mark' bound' : List ℕ) : Type 0 where
  pub is : (t : Table) (was : List ℕ) → ColumnsOf t kinds tokens roles symbols → Inheriting t entry_keys entry_nodes first to → v < vertex_count t
      → InheritanceRoom t table mark queue was → length bound ≡ length was
      → Done t was (v + 1) table mark bound → Done t was v table' mark' bound'

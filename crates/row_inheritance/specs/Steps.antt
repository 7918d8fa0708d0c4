-- What the inner functions go by.
use Rattle.std.specs.Prelude.{◌≡◌, ◌↔◌, Option, Some, Bool, true, false, cond, ◌&&◌, List, [], ◌++◌, ℕ, zero, suc, ◌+◌, ◌-◌, ◌*◌, ◌≤◌, ◌<◌, length, get_or}
use Rattle.relations.specs.Reach.{Reaches}
use Rattle.express.specs.Syntax.Tree.{Table, count, symbol, owner}
use Rattle.express.specs.Tokens.Scanned.{Scanned}
use Rattle.graph.specs.Graph.{vertices, Graph, Arc}
use Rattle.scopes.specs.Entries.{vertex}
use Rattle.scopes.specs.Preparation.{Prepared}
use Rattle.scopes.specs.Range.{vertex_count}
use Rattle.symbol_tables.specs.Table.{symbol_in}
use Rattle.attributes.specs.Attributes.{attributes_of}
use Rattle.bit_rows.specs.Bits.{bit}
use Rattle.ancestors.specs.Rows.{width_limit, place}
use Rattle.attribute_chains.specs.Chains.{link_count, Chained, FindsAmong}
use Rattle.inheritance.specs.Inheritance.{asks, ColumnsOf, Inheriting, Inherits}
use Rattle.inheritance.specs.Steps.{StoresEach, StoredFrom}
use Rattle.row_inheritance.specs.Ranks.{entity_at, entities_before, rank_in}

-- ---- rows

-- one more than the most declarations for which rows are made: what they take is a number of 32 bits
abbrev pub declaration_limit : ℕ
declaration_limit = 32768

-- a graph in which the arcs of entities lead to entities
pub record EntityGraph (kinds nodes first to : List ℕ) : Type 0 where
  pub graph : Graph first to
  pub onward : (v w : ℕ) → Arc first to v w → entity_at kinds nodes v ≡ true → entity_at kinds nodes w ≡ true

-- rows of so many words that say which entity reaches which, and what any of them reaches
pub record EntityRows (kinds nodes first to : List ℕ) (width : ℕ) (rows : List ℕ) : Type 0 where
  pub reached : (v w : ℕ) → v < vertices first → w < vertices first → entity_at kinds nodes v ≡ true → entity_at kinds nodes w ≡ true
      → (bit rows (place width (rank_in kinds nodes v) (rank_in kinds nodes w)) ≡ true) ↔ Reaches (Arc first to) v w
  pub by_any : (v w : ℕ) → v < vertices first → w < vertices first → entity_at kinds nodes v ≡ true → Reaches (Arc first to) v w
      → bit rows (rank_in kinds nodes w) ≡ true

-- the ranks of so many declarations stand in a table, behind so many symbols
pub record RanksStand (kinds nodes : List ℕ) (symbols declarations : ℕ) (table : List ℕ) : Type 0 where
  pub is : (v : ℕ) → v < declarations → get_or table (symbols + v) 0 ≡ rank_in kinds nodes v

-- `rank_declarations`: with the number of entities
pub record RanksDeclarations (kinds nodes : List ℕ) (symbols declarations r : ℕ) (table' : List ℕ) : Type 0 where
  pub total : r ≡ entities_before kinds nodes declarations
  pub stand : RanksStand kinds nodes symbols declarations table'

-- `relate_entities`: the words of a row, if the rows are made
pub record RelatesEntities (first to : List ℕ) (symbols declarations entities : ℕ) (table : List ℕ) (r : Option ℕ) (rows' : List ℕ) : Type 0 where
  pub narrow : (width : ℕ) → r ≡ Some width → width ≤ width_limit
  pub rows_are : (width : ℕ) → r ≡ Some width → (kinds nodes : List ℕ) → declarations ≡ vertices first → entities ≡ entities_before kinds nodes declarations → RanksStand kinds nodes symbols declarations table
      → EntityGraph kinds nodes first to → EntityRows kinds nodes first to width rows'

-- ---- chains

-- of the entities that any other reaches
abbrev pub wanted : List ℕ → List ℕ → List ℕ → ℕ → Bool
wanted kinds nodes rows v = entity_at kinds nodes v && bit rows (rank_in kinds nodes v)

-- the attributes of those that are wanted, among the last k declarations
unfoldable pub wanted_attributes : Table → (ℕ → Bool) → ℕ → List ℕ
wanted_attributes t wants zero = []
wanted_attributes t wants (suc k) =
    let v = vertex_count t - suc k in
    let later = wanted_attributes t wants k in
    cond (wants v) (attributes_of t v ++ later) later

-- the rank of a node's owner
unfoldable pub rank_of : Table → List ℕ → List ℕ → ℕ → ℕ
rank_of t kinds nodes n = rank_in kinds nodes (vertex t (owner t n))

-- a file with its dictionary, zeros in a table for its symbols, and the ranks of its declarations behind them
pub record Chainable (t : Table) (kinds keys nodes : List ℕ) (symbols declarations : ℕ) (table : List ℕ) : Type 0 where
  pub kinds_are : t.kinds ≡ kinds
  pub scanned : Scanned t
  pub heads : List ℕ
  pub next : List ℕ
  pub prepared : Prepared t keys nodes heads next
  pub named : symbols ≡ length t.symbols
  pub so_many : declarations ≡ vertex_count t
  pub few : vertex_count t < link_count
  pub long : length t.symbols + vertex_count t ≤ length table
  pub ranks : (v : ℕ) → v < vertex_count t → get_or table (length t.symbols + v) 0 ≡ rank_in kinds nodes v
  pub zeros : (s : ℕ) → s < length t.symbols → get_or table s 0 ≡ 0
  pub few_entries : length nodes - vertex_count t < link_count

-- the attributes of all that are wanted stand in chains, and the ranks behind the heads of these
pub record Charted (t : Table) (kinds nodes rows table pairs : List ℕ) : Type 0 where
  pub total : ℕ
  pub ranks : (v : ℕ) → v < vertex_count t → get_or table (length t.symbols + v) 0 ≡ rank_in kinds nodes v
  pub chained : Chained (rank_of t kinds nodes) (symbol t) (length t.symbols) total table pairs (wanted_attributes t (wanted kinds nodes rows) (vertex_count t))

-- `chain_attributes`: so many are chained, if they fit
pub record ChainsAttributes (kinds keys nodes rows : List ℕ) (symbols declarations : ℕ) (table pairs : List ℕ) (r : ℕ) (table' pairs' : List ℕ) : Type 0 where
  pub is : (t : Table) → Chainable t kinds keys nodes symbols declarations table → 2 * r ≤ length pairs → Charted t kinds nodes rows table' pairs'

-- ---- what is stored

-- `store_found`: at each node from lo up to hi that asks what the chain of its symbol has; all else is as it was
abbrev pub StoresFound : List ℕ → List ℕ → List ℕ → List ℕ → List ℕ → List ℕ → List ℕ → ℕ → ℕ → ℕ → List ℕ → List ℕ → Type 0
StoresFound kinds tokens roles symbols heads rows pairs base =
    StoresEach kinds roles (λ n x. FindsAmong rows pairs base (get_or heads (symbol_in tokens symbols n) 0) x)

-- a file with its rows and chains, and a column where 0 stands at the nodes that ask
pub record Ready (t : Table) (kinds tokens roles symbols keys nodes first to table rows pairs : List ℕ) (width : ℕ) (bound : List ℕ) : Type 0 where
  pub columns : ColumnsOf t kinds tokens roles symbols
  pub inheriting : Inheriting t keys nodes first to
  pub few : vertex_count t < link_count
  pub narrow : width ≤ width_limit
  pub rows_are : EntityRows kinds nodes first to width rows
  pub charted : Charted t kinds nodes rows table pairs
  pub empty : (n : ℕ) → n < count t → asks t n ≡ true → get_or bound n 0 ≡ 0
  pub room : count t ≤ length bound

-- `store_declarations`
pub record StoresInherited (kinds tokens roles symbols keys nodes first table rows pairs : List ℕ) (width : ℕ) (bound bound' : List ℕ) : Type 0 where
  pub is : (t : Table) (to : List ℕ) → Ready t kinds tokens roles symbols keys nodes first to table rows pairs width bound → StoredFrom t bound 0 bound'

-- `rows_fit`: room for an order of the declarations and their ranks, and no more entries than links
pub record RowsFit (symbols offsets entries table : ℕ) : Type 0 where
  pub some : 0 < offsets
  pub few : offsets < declaration_limit
  pub order_room : 2 * (offsets - 1) ≤ symbols
  pub rank_room : symbols + (offsets - 1) ≤ table
  pub few_entries : entries - (offsets - 1) < link_count

-- `inherit_rows`: what is inherited, or nothing is changed in the column
pub record InheritsRows (kinds tokens roles symbols keys nodes first to table mark queue bound : List ℕ) (r : Bool) (bound' : List ℕ) : Type 0 where
  pub yes : r ≡ true → Inherits kinds tokens roles symbols keys nodes first to table mark queue bound bound'
  pub no : r ≡ false → bound' ≡ bound

-- The attributes of declarations, found by the entries of the dictionary and put into a table by symbol.
use Rattle.std.specs.Prelude.{◌≡◌, Bool, cond, ◌||◌, List, [], ◌++◌, map, ℕ, zero, suc, ◌+◌, ◌-◌, ◌%◌, ◌≤◌, ◌<◌, eqb, length, get_or}
use Rattle.relations.specs.Select.{span, keep}
use Rattle.express.specs.Syntax.NodeKind.{attribute_name, derived_attribute}
use Rattle.express.specs.Syntax.Tree.{Table, symbol, is_attribute}
use Rattle.express.specs.Tokens.Scanned.{Scanned}
use Rattle.scopes.specs.Entries.{radix, others_before}
use Rattle.scopes.specs.Preparation.{Prepared}
use Rattle.scopes.specs.Range.{vertex_count, node_of, range_start}
use Rattle.symbol_tables.specs.Entry.{code_count, stamp_count, node_limit}
use Rattle.symbol_tables.specs.Table.{Tabulated, OnlyStamped}

-- ---- offsets: which entries lie in the range of a declaration

-- the first entry behind the declarations whose node is not before the range of a number
unfoldable pub offset_of : Table → ℕ → ℕ
offset_of t v = vertex_count t + others_before t (range_start t v)

-- where that of a number stands: so many offsets are at the end of the table
abbrev pub place : List ℕ → ℕ → ℕ → ℕ
place table offsets v = length table - offsets + v

pub record Offsets (t : Table) (table : List ℕ) : Type 0 where
  pub is : (v : ℕ) → v ≤ vertex_count t → get_or table (place table (vertex_count t + 1) v) 0 ≡ offset_of t v

-- `range_start`, by the column of nodes of a prepared file
abbrev pub start_in : List ℕ → ℕ → ℕ
start_in nodes v = cond (eqb v 0) 0 (get_or nodes (v - 1) 0 + 1)

-- `back`: from the entry hi back, as long as no node is before one, and not below the entry low
pub record Back (nodes : List ℕ) (low hi from r : ℕ) : Type 0 where
  pub upto : r ≤ hi
  pub down : low ≤ hi → low ≤ r
  pub before : low < r → get_or nodes (r - 1) 0 < from
  pub behind : (e : ℕ) → r ≤ e → e < hi → from ≤ get_or nodes e 0

-- `store_offsets`: the offsets stand, and no entry has a stamp but 0
pub record StoresOffsets (nodes : List ℕ) (offsets : ℕ) (table table' : List ℕ) : Type 0 where
  pub is : (t : Table) (keys heads next : List ℕ) → Prepared t keys nodes heads next → offsets ≡ vertex_count t + 1 → offsets ≤ length table → Offsets t table'
  pub small : (t : Table) (keys heads next : List ℕ) → Prepared t keys nodes heads next → offsets ≡ vertex_count t + 1 → (k : ℕ) → get_or table' k 0 < code_count

-- ---- the attributes of what is reached

-- these nodes are put into a table under a stamp, before those that it has; from a limit on the table is as it was
pub record Puts (symbol : ℕ → ℕ) (limit stamp : ℕ) (ms table table' : List ℕ) : Type 0 where
  pub only : OnlyStamped stamp table table'
  pub behind : (k : ℕ) → limit ≤ k → get_or table' k 0 ≡ get_or table k 0
  pub is : (ns : List ℕ) → Tabulated symbol table stamp ns → Tabulated symbol table' stamp (ms ++ ns)

-- an entry whose node a table can hold, under a symbol below the limit
pub record Fits (symbol : ℕ → ℕ) (limit : ℕ) (keys nodes : List ℕ) (e : ℕ) : Type 0 where
  pub node : get_or nodes e 0 < node_limit
  pub key : get_or keys e 0 % radix ≡ symbol (get_or nodes e 0)
  pub below : symbol (get_or nodes e 0) < limit

abbrev pub attribute_kind : ℕ → Bool
attribute_kind kind = eqb kind attribute_name || eqb kind derived_attribute

-- the attributes among the nodes of the entries from lo up to hi
unfoldable pub attributes_between : List ℕ → List ℕ → ℕ → ℕ → List ℕ
attributes_between kinds nodes lo hi = keep (λ n. attribute_kind (get_or kinds n 0)) (map (λ (e : ℕ). get_or nodes e 0) (span lo (hi - lo)))

-- `collect_entries`: they are put into a table
pub record CollectsEntries (kinds keys nodes : List ℕ) (lo hi stamp : ℕ) (table table' : List ℕ) : Type 0 where
  pub is : (symbol : ℕ → ℕ) (limit : ℕ) → stamp < stamp_count → ((e : ℕ) → lo ≤ e → e < hi → Fits symbol limit keys nodes e)
      → Puts symbol limit stamp (attributes_between kinds nodes lo hi) table table'

-- those of a declaration, by its number
unfoldable pub attributes_of : Table → ℕ → List ℕ
attributes_of t v = keep (is_attribute t) (span (range_start t v) (node_of t v - range_start t v))

-- those of the first k declarations in a queue
unfoldable pub queued_attributes : Table → List ℕ → ℕ → List ℕ
queued_attributes t queue zero = []
queued_attributes t queue (suc k) = attributes_of t (get_or queue k 0) ++ queued_attributes t queue k

-- these are the kinds of a file with its dictionary, declarations are queued, and the table has the offsets behind the symbols
pub record Queued (t : Table) (kinds entry_keys entry_nodes queue : List ℕ) (queued offsets : ℕ) (table : List ℕ) : Type 0 where
  pub kinds_are : t.kinds ≡ kinds
  pub scanned : Scanned t
  pub heads : List ℕ
  pub next : List ℕ
  pub prepared : Prepared t entry_keys entry_nodes heads next
  pub known : (k : ℕ) → k < queued → get_or queue k 0 < vertex_count t
  pub room : length t.symbols + vertex_count t < length table
  pub so_many : offsets ≡ vertex_count t + 1
  pub stand : Offsets t table

-- `collect_queued`: the attributes of those that are queued are put into the table
pub record CollectsQueued (kinds entry_keys entry_nodes queue : List ℕ) (queued offsets stamp : ℕ) (table table' : List ℕ) : Type 0 where
  pub is : (t : Table) → Queued t kinds entry_keys entry_nodes queue queued offsets table → stamp < stamp_count
      → Puts (symbol t) (length t.symbols) stamp (queued_attributes t queue queued) table table'

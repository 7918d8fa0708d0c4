-- What a use, an attribute or a label inherits: the meaning of its symbol among the attributes that its owner inherits (N9).
use Rattle.std.specs.Prelude.{◌≡◌, Bool, true, cond, ◌||◌, List, ℕ, ◌+◌, ◌≤◌, ◌<◌, length, get_or}
use Rattle.express.specs.Syntax.Grammar.{file}
use Rattle.express.specs.Syntax.Syntax.{Read}
use Rattle.express.specs.Syntax.Tree.{Table, count, symbol, nodes, is_scope_member, owner}
use Rattle.express.specs.Tokens.Scanned.{Scanned}
use Rattle.express.specs.Names.Scope.{meaning, is_use, inherited}
use Rattle.express.specs.Names.Fault.{type_name_fault}
use Rattle.express.specs.Names.Names.{Passes}
use Rattle.scopes.specs.Preparation.{Prepared}
use Rattle.scopes.specs.Range.{vertex_count}
use Rattle.symbol_tables.specs.Entry.{code, stamp_count}
use Rattle.dependencies.specs.Target.{type_target}
use Rattle.dependencies.specs.Graph.{GraphOf}

-- the nodes that ask for it: a use (N10), and an attribute or a label, which may not be named like what is inherited (N16)
abbrev pub asks : Table → ℕ → Bool
asks t n = is_use t n || is_scope_member t n

unfoldable pub inherited_code : Table → ℕ → ℕ
inherited_code t n = code (meaning (inherited t (owner t n) (symbol t n)))

-- these are columns of a file
pub record ColumnsOf (t : Table) (kinds tokens roles symbols : List ℕ) : Type 0 where
  pub kinds_are : t.kinds ≡ kinds
  pub tokens_are : t.tokens ≡ tokens
  pub roles_are : t.roles ≡ roles
  pub symbols_are : t.symbols ≡ symbols

-- a file whose names of types are right, with its dictionary and the graph of N7
pub record Inheriting (t : Table) (entry_keys entry_nodes first to : List ℕ) : Type 0 where
  pub scanned : Scanned t
  pub read : Read file t
  pub right : Passes (nodes t) (type_name_fault t)
  pub entry_heads : List ℕ
  pub entry_next : List ℕ
  pub prepared : Prepared t entry_keys entry_nodes entry_heads entry_next
  pub graph : GraphOf t (type_target t) first to

-- an entry for each symbol, and behind them one for each vertex and one more; a stamp, a mark and a place in the queue for each vertex; and room for what
-- each node inherits, where 0 stands at those that ask
pub record InheritanceRoom (t : Table) (table mark queue bound : List ℕ) : Type 0 where
  pub table_room : length t.symbols + vertex_count t < length table
  pub stamps : vertex_count t < stamp_count
  pub mark_room : vertex_count t ≤ length mark
  pub queue_room : vertex_count t ≤ length queue
  pub bound_room : count t ≤ length bound
  pub empty : (n : ℕ) → n < count t → asks t n ≡ true → get_or bound n 0 ≡ 0

-- afterwards each node that asks has what it inherits; what stands at the others is as it was
pub record Inherits (kinds tokens roles symbols entry_keys entry_nodes first to table mark queue bound bound' : List ℕ) : Type 0 where
  pub is : (t : Table) → ColumnsOf t kinds tokens roles symbols → Inheriting t entry_keys entry_nodes first to
      → InheritanceRoom t table mark queue bound → (n : ℕ) → n < count t → get_or bound' n 0 ≡ cond (asks t n) (inherited_code t n) (get_or bound n 0)

-- What the column of declared types holds after the call.
use Rattle.std.specs.Prelude.{◌≡◌, ◌≢◌, List, ℕ, ◌+◌, ◌≤◌, ◌<◌, length, get_or}
use Rattle.relations.specs.Select.{keep}
use Rattle.relations.specs.Reach.{Joins}
use Rattle.relations.specs.Sorted.{Arranged}
use Rattle.express.specs.Syntax.NodeKind.{enumeration_item, constant, type}
use Rattle.express.specs.Syntax.Tree.{Table, count, nodes, is_declaration}
use Rattle.express.specs.Syntax.Grammar.{file}
use Rattle.express.specs.Syntax.Syntax.{Read}
use Rattle.express.specs.Names.Scope.{bindings, type_edges}
use Rattle.express.specs.Names.Names.{WellNamed}
use Rattle.express.specs.Semantics.DeclaredColumn.{DeclaredColumn}

-- the columns are those of a table
pub record ColumnsOf (t : Table) (terminals kinds tokens sizes : List ℕ) : Type 0 where
  pub terminals_are : t.terminals ≡ terminals
  pub kinds_are : t.kinds ≡ kinds
  pub tokens_are : t.tokens ≡ tokens
  pub sizes_are : t.sizes ≡ sizes

-- A file that the stages before have accepted: it is derived, its names are right (R17) and bound (N18), and its declarations stand in an order, each type
-- after those that it renames (N7; `type_order` of proofs/Examples). Every number fits into 32 bits, and the column has an entry for each node.
pub record Accepted (t : Table) (b order column : List ℕ) : Type 0 where
  pub read : Read file t
  pub named : WellNamed t
  pub bound : b ≡ bindings t
  pub arranged : Arranged (Joins (type_edges t)) (keep (is_declaration t) (nodes t)) order
  pub few : count t + 6 < 4294967296
  pub room : count t ≤ length column

-- THE COLUMN OF DECLARED TYPES of such a file; whatever the columns hold, only the entries of items, types and constants change.
pub record Declares (terminals kinds tokens sizes b order column column' : List ℕ) : Type 0 where
  pub declared : (t : Table) → ColumnsOf t terminals kinds tokens sizes → Accepted t b order column → DeclaredColumn t b column'
  pub kept : (n : ℕ) → get_or kinds n 0 ≢ enumeration_item → get_or kinds n 0 ≢ type → get_or kinds n 0 ≢ constant → get_or column' n 0 ≡ get_or column n 0

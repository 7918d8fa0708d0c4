-- The items of a schema, by symbol.
use Rattle.std.specs.Prelude.{◌≡◌, ◌⊎◌, true, Some, List, ℕ, ◌-◌, ◌≤◌, ◌<◌, length, get_or}
use Rattle.express.specs.Syntax.NodeKind.{schema}
use Rattle.express.specs.Syntax.Grammar.{file}
use Rattle.express.specs.Syntax.Syntax.{Read}
use Rattle.express.specs.Syntax.Tree.{Table, count, is}
use Rattle.express.specs.Names.Scope.{meaning, items}
use Rattle.symbol_tables.specs.Entry.{code, stamp_count, node_limit, stamp_of, says}
use Rattle.symbol_tables.specs.Table.{OnlyStamped}
use Rattle.schema_items.specs.declared.Tabled.{Tabled}

-- N10: of each symbol the table says under a stamp what this means among the items of a schema h
pub record ItemsOf (t : Table) (h : ℕ) (table : List ℕ) (stamp : ℕ) : Type 0 where
  pub is : (s : ℕ) → s < length table → says table stamp s ≡ code (meaning (items t h s))

-- h is a schema of a file with these columns, with a token for each node, and nodes that an entry can hold
pub record SchemaOf (t : Table) (kinds tokens sizes symbols : List ℕ) (h : ℕ) : Type 0 where
  pub read : Read file t
  pub kinds_are : kinds ≡ t.kinds
  pub tokens_are : tokens ≡ t.tokens
  pub sizes_are : sizes ≡ t.sizes
  pub symbols_are : symbols ≡ t.symbols
  pub tokened : count t ≤ length tokens
  pub known : h < count t
  pub a_schema : is t schema h ≡ true
  pub held : h ≤ node_limit

-- `tabulate_items`, under a stamp that no entry has
pub record Tabulates (kinds tokens sizes symbols : List ℕ) (h stamp : ℕ) (table table' : List ℕ) : Type 0 where
  pub is :
      (t : Table) → SchemaOf t kinds tokens sizes symbols h → stamp < stamp_count → ((s : ℕ) → stamp_of (get_or table s 0) ≡ stamp → ⊥) →
      ItemsOf t h table' stamp × OnlyStamped stamp table table'

-- The stamps v and below have no entry, but for 0 of an entry that was never made; and the items of one schema stand in the table, if it has those of any.
pub record Tabling (t : Table) (v : ℕ) (tabled : Tabled) (table : List ℕ) : Type 0 where
  pub stamps : (s : ℕ) → (stamp_of (get_or table s 0) ≡ 0) ⊎ (v < stamp_of (get_or table s 0))
  pub items_are : (h : ℕ) → tabled.schema ≡ Some h → ItemsOf t h table tabled.stamp

-- `begin`
pub record Begins (r : Tabled) (table' : List ℕ) : Type 0 where
  pub is : (t : Table) (v : ℕ) → Tabling t v r table'

-- `turn_to`, with the stamp that is free next
pub record Turns (kinds tokens sizes symbols : List ℕ) (h stamp : ℕ) (before : Tabled) (table : List ℕ) (after : Tabled) (table' : List ℕ) : Type 0 where
  pub is :
      (t : Table) → SchemaOf t kinds tokens sizes symbols h → 0 < stamp → stamp < stamp_count → Tabling t stamp before table →
      ItemsOf t h table' after.stamp × Tabling t (stamp - 1) after table'

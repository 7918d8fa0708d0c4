-- The names in expressions of a file are bound: stage 4 of N19.
use Rattle.std.specs.Prelude.{◌≡◌, Bool, true, false, cond, not, ◌&&◌, ◌||◌, List, ℕ, ◌≤◌, ◌<◌, eqb, leb, ltb, length, get_or, Option}
use Rattle.express.specs.Syntax.NodeKind.{name, qualified_item, self, in_expression}
use Rattle.express.specs.Syntax.NodeKind as node
use Rattle.express.specs.Syntax.Grammar.{file}
use Rattle.express.specs.Syntax.Syntax.{Read}
use Rattle.express.specs.Tokens.Scanned.{Scanned}
use Rattle.express.specs.Syntax.Tree.{Table, count, symbol, is, owner, schema_of}
use Rattle.express.specs.Names.Scope.{Meaning, one, binding}
use Rattle.express.specs.Names.Fault.{expression}
use Rattle.scopes.specs.Preparation.{Prepared}
use Rattle.scopes.specs.Standing.{is_member}
use Rattle.scopes.specs.Range.{vertex_count, node_of}
use Rattle.faults.specs.declared.Fault.{Fault}
use Rattle.dependencies.specs.Target.{constant_target}
use Rattle.dependencies.specs.Graph.{Room}
use Rattle.type_names.specs.TypeName.{is_type_name}
use Rattle.type_names.specs.Pass.{Pass, Finds, PassesRange, PassedAll}
use Rattle.type_names.specs.declared.Finding.{Finding}
use Rattle.type_names.specs.declared.Progress.{Progress}
use Rattle.inheritance.specs.Inheritance.{inherited_code}
use Rattle.symbol_tables.specs.Entry.{several_code, code, stamp_count}
use Rattle.schema_items.specs.Items.{ItemsOf}
use Rattle.meanings.specs.Use.{StandsFor}
use Rattle.meanings.specs.Node.{asks, inherits, ColumnsOf}
use Rattle.meanings.specs.declared.Use.{Use}

-- `asks` of meanings, of a node of a kind and a role, but for an attribute or label that inherits none, of which there is nothing to find (N16); the code
-- says what the node's symbol inherits
abbrev pub finds_by : ℕ → ℕ → ℕ → Bool
finds_by kind role code = (eqb kind name && eqb role in_expression) || eqb kind qualified_item || eqb kind self || (is_member kind role && not (eqb code 0))

-- the nodes of which it may hold: names in expressions, `type.item`, SELF, and of those from attributes on what has a code
abbrev pub may_find : ℕ → ℕ → ℕ → Bool
may_find kind role code =
    (eqb kind name && eqb role in_expression) || ((ltb name kind && leb kind self) || (leb node.attribute_name kind && not (eqb code 0)))

abbrev pub may_find_at : List ℕ → List ℕ → List ℕ → ℕ → Bool
may_find_at kinds roles bound n = may_find (get_or kinds n 0) (get_or roles n 0) (get_or bound n 0)

-- what a code of inherited attributes or of items stands for, in a file with fewer nodes than there are codes
pub record Decodes (c : ℕ) (r : Use) : Type 0 where
  pub stands : (t : Table) (nodes : List ℕ) (m : Meaning) → count t < several_code → ((k : ℕ) → m ≡ one k → (k < count t) × (is t node.constant k ≡ false)) → c ≡ code m → StandsFor t nodes m r

-- THE PASS: each node's fault of the stage, the constant that it names, and its binding. Before, the column holds what the symbol of a use, an attribute
-- or a label inherits, and the bindings of the names of types.
abbrev pub inherited_before : Table → ℕ → ℕ
inherited_before t n = cond (inherits t n) (inherited_code t n) (cond (is_type_name t n) (binding t n) 0)

abbrev pub uses : Table → Pass
uses t = record { stage = expression t; target = constant_target t; entry = binding t; entry_before = inherited_before t }

module _ (kinds tokens sizes symbols starts keys nodes heads next : List ℕ) where
  -- a file with its dictionary
  pub record FileOf (t : Table) : Type 0 where
    pub read : Read file t
    pub columns : ColumnsOf t kinds tokens sizes symbols starts
    pub prepared : Prepared t keys nodes heads next

  -- `finding_at`
  pub record FindingAt (items : List ℕ) (stamp o h c n : ℕ) (f : Finding) : Type 0 where
    pub is :
        (t : Table) → FileOf t → n < count t → asks t n ≡ true → o ≡ owner t n → h ≡ schema_of t n → (inherits t n ≡ true → c ≡ inherited_code t n) →
        symbol t n < length items → ItemsOf t h items stamp → Finds (uses t) n f

module _ (kinds tokens sizes roles symbols starts keys nodes heads next : List ℕ) where
  -- the schema of a declaration, and its items in a table that has an entry for each symbol
  pub record RangeAsked (items : List ℕ) (stamp schema : ℕ) (t : Table) (v : ℕ) : Type 0 where
    pub of_file : FileOf kinds tokens sizes symbols starts keys nodes heads next t
    pub roles_are : roles ≡ t.roles
    pub schema_is : schema ≡ schema_of t (node_of t v)
    pub items_room : (n : ℕ) → n < count t → symbol t n < length items
    pub items_are : ItemsOf t schema items stamp

  -- `bind_range`
  abbrev pub BindsRange : List ℕ → ℕ → ℕ → ℕ → ℕ → Progress → List ℕ → List ℕ → ℕ → Progress → List ℕ → List ℕ → Type 0
  BindsRange items stamp schema lo hi = PassesRange (RangeAsked items stamp schema) uses lo hi

  -- the columns are those of a file, there is room (a place in the table of items for each symbol, a stamp for each declaration), and the column of bindings
  -- holds what is inherited
  pub record FileAsked (bound : List ℕ) (offsets places slots : ℕ) (t : Table) : Type 0 where
    pub of_file : FileOf kinds tokens sizes symbols starts keys nodes heads next t
    pub roles_are : roles ≡ t.roles
    pub bound_room : count t ≤ length bound
    pub bound_is : (n : ℕ) → n < count t → get_or bound n 0 ≡ inherited_before t n
    pub graph_room : Room t (constant_target t) offsets places
    pub items_room : length t.symbols ≤ slots
    pub stamp_room : vertex_count t < stamp_count

  -- `bind_uses`: the fault of the stage of expressions, the bindings of all names, and the graph of N17
  pub record BindsUses (bound first to items : List ℕ) (r : Option Fault) (bound' first' to' : List ℕ) : Type 0 where
    pub is : (t : Table) → Scanned t → FileAsked bound (length first) (length to) (length items) t → PassedAll t (uses t) r bound' first' to'

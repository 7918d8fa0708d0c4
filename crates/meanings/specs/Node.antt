-- What is found of a node in an expression or of an own attribute or label (the stage of expressions, N11 to N16).
use Rattle.std.specs.Prelude.{◌≡◌, Bool, true, not, cond, ◌||◌, List, ℕ, ◌<◌, Option}
use Rattle.relations.specs.Select.{empty}
use Rattle.express.specs.Syntax.NodeKind.{qualified_item, self}
use Rattle.express.specs.Syntax.Grammar.{file}
use Rattle.express.specs.Syntax.Syntax.{Read}
use Rattle.express.specs.Syntax.Tree.{Table, count, kind, symbol, is, is_scope_member, owner, schema_of}
use Rattle.express.specs.Names.Scope.{meaning, inherited, items, is_use, binding}
use Rattle.express.specs.Names.Fault as express
use Rattle.scopes.specs.Preparation.{Prepared}
use Rattle.dependencies.specs.Target.{constant_target}
use Rattle.faults.specs.Meaning.{fault_of}
use Rattle.faults.specs.declared.Fault.{Fault}
use Rattle.meanings.specs.Use.{StandsFor}
use Rattle.meanings.specs.declared.Use.{Use}
use Rattle.type_names.specs.declared.Finding.{Finding}

-- the nodes at which the stage of expressions can find a fault: a name in an expression, `type.item`, SELF, an own attribute or label
abbrev pub asks : Table → ℕ → Bool
asks t n = is_use t n || is t qualified_item n || is t self n || is_scope_member t n

-- those whose symbols can be inherited
abbrev pub inherits : Table → ℕ → Bool
inherits t n = is_use t n || is_scope_member t n

-- N16: an own attribute or label that is spelled like some inherited ones
pub record MemberFault (u : Use) (p : ℕ) (f : Option Fault) : Type 0 where
  pub is : (t : Table) (nodes xs : List ℕ) → StandsFor t nodes (meaning xs) u → fault_of f ≡ cond (not (empty xs)) (express.fault 12 p) express.fine

-- the columns of a file that are read
pub record ColumnsOf (t : Table) (kinds tokens sizes symbols starts : List ℕ) : Type 0 where
  pub kinds_are : kinds ≡ t.kinds
  pub tokens_are : tokens ≡ t.tokens
  pub sizes_are : sizes ≡ t.sizes
  pub symbols_are : symbols ≡ t.symbols
  pub starts_are : starts ≡ t.starts

-- OF A NODE
pub record FoundAt (t : Table) (n : ℕ) (f : Finding) : Type 0 where
  pub fault_is : fault_of f.fault ≡ express.expression t n
  pub binding_is : f.binding ≡ binding t n
  pub target_is : f.target ≡ constant_target t n

-- where a node stands: its kind, its owner and its schema, what its symbol inherits there, where it can, and what the symbol of a use means among the items
pub record Standing (t : Table) (nodes : List ℕ) (k o h : ℕ) (u item : Use) (n : ℕ) : Type 0 where
  pub known : n < count t
  pub asked : asks t n ≡ true
  pub kind_is : k ≡ kind t n
  pub owner_is : o ≡ owner t n
  pub schema_is : h ≡ schema_of t n
  pub inherited_is : inherits t n ≡ true → StandsFor t nodes (meaning (inherited t o (symbol t n))) u
  pub item_is : is_use t n ≡ true → StandsFor t nodes (meaning (items t h (symbol t n))) item

pub record NodeFindings (kinds tokens sizes symbols starts keys nodes heads next : List ℕ) (k o h : ℕ) (u item : Use) (n : ℕ) (f : Finding) : Type 0 where
  pub found :
      (t : Table) → Read file t → ColumnsOf t kinds tokens sizes symbols starts → Prepared t keys nodes heads next → Standing t nodes k o h u item n → FoundAt t n f

-- The typing of one expression against a file, and of the constants of a file (K1 to K11).
use Rattle.std.specs.Prelude.{◌≡◌, List, map, ℕ, ◌-◌, ◌≤◌, ◌<◌, length, get_or, Result, Ok, Err}
use Rattle.relations.specs.Select.{span}
use Rattle.express.specs.Syntax.NodeKind as node
use Rattle.express.specs.Syntax.Tree.{Table, count, kind, terminal}
use Rattle.express.specs.Syntax.Grammar.{file}
use Rattle.express.specs.Syntax.Syntax.{Read}
use Rattle.express.specs.Semantics.DeclaredColumn.{DeclaredColumn}
use Rattle.express.specs.Semantics.Shape.{name_shape_in, shape_in}
use Rattle.express.specs.Semantics.Operate.{Kind}
use Rattle.express.specs.Semantics.Kind.{of_number, finding_in, kind_at, typed, ill_typed, type_nodes_in, typing}
use Rattle.express.specs.Semantics.Kind as express
use Rattle.kind_rules.specs.declared.Fault.{Fault}
use Rattle.typing.specs.declared.IllTyped.{IllTyped}
use Rattle.kind_rules.specs.Findings.{finding_of}

-- the kinds that a lent column holds by number
abbrev pub kinds_of : List ℕ → List Kind
kinds_of scratch = map of_number scratch

-- an answer as a typing of express: the kinds are those that are left in the lent column
abbrev pub typing_of : Result (Unit {0}) IllTyped → List ℕ → express.Typing
typing_of (Ok _) scratch = typed (kinds_of scratch)
typing_of (Err i) scratch = ill_typed i.reply i.node

-- and a typing as an answer
abbrev pub outcome : express.Typing → Result (Unit {0}) IllTyped
outcome (typed ks) = Ok tt
outcome (ill_typed f n) = Err (record { reply = f; node = n })

-- Names in a table e are bound by c to nodes of the file's table t, whose names are bound by b; and what is declared in either stands in one column.
pub record Names (t : Table) (b : List ℕ) (e : Table) (c kinds file_kinds declared : List ℕ) : Type 0 where
  pub own_kinds : e.kinds ≡ kinds
  pub file_kinds_are : t.kinds ≡ file_kinds
  pub own_declared : DeclaredColumn e c declared
  pub file_declared : DeclaredColumn t b declared

-- THE COLUMNS of an expression's table e and of the file's table t. For the constants of the file they are the same; in the table of an expression that
-- is read by itself nothing is declared (`loose_declared` of proofs/Loose).
pub record Against (t : Table) (b : List ℕ) (e : Table) (terminals kinds tokens sizes bindings file_kinds declared : List ℕ) : Type 0 where
  pub terminals_are : e.terminals ≡ terminals
  pub tokens_are : e.tokens ≡ tokens
  pub sizes_are : e.sizes ≡ sizes
  pub names : Names t b e bindings kinds file_kinds declared

-- what is found at a name
pub record Named (kinds : List ℕ) (binding : ℕ) (file_kinds declared : List ℕ) (r : Result ℕ Fault) : Type 0 where
  pub is :
      (t : Table) (b : List ℕ) (e : Table) (c : List ℕ) (k : ℕ → Kind) (n : ℕ) → Names t b e c kinds file_kinds declared →
      get_or c n 0 ≡ binding → n < count e → (kind e n ≡ node.simple_type → ⊥) → finding_of r ≡ finding_in t b e k n (name_shape_in t e c n)

-- a node that is neither a name nor a constant
pub record Plain (k : ℕ) : Type 0 where
  pub no_name : k ≡ node.name → ⊥
  pub no_item : k ≡ node.qualified_item → ⊥
  pub no_constant : k ≡ node.constant → ⊥

-- what is found there
pub record Operates (k w : ℕ) (sizes scratch : List ℕ) (n : ℕ) (r : Result ℕ Fault) : Type 0 where
  pub is :
      (t : Table) (b : List ℕ) (e : Table) (c : List ℕ) → e.sizes ≡ sizes → kind e n ≡ k → terminal e n ≡ w → Plain k →
      finding_of r ≡ finding_in t b e (kind_at (kinds_of scratch)) n (shape_in t e c n)

-- K3 to K10: what is found at a node
pub record Finds (terminals kinds tokens sizes bindings file_kinds declared scratch : List ℕ) (n : ℕ) (r : Result ℕ Fault) : Type 0 where
  pub is :
      (t : Table) (b : List ℕ) (e : Table) → Against t b e terminals kinds tokens sizes bindings file_kinds declared →
      finding_of r ≡ finding_in t b e (kind_at (kinds_of scratch)) n (shape_in t e bindings n)

-- THE TYPING OF AN EXPRESSION, its nodes from lo up to hi: from the kinds that the lent column held to those that it holds afterwards
pub record TypesNodes (terminals kinds tokens sizes bindings : List ℕ) (lo hi : ℕ) (file_kinds declared scratch scratch' : List ℕ) (r : Result (Unit {0}) IllTyped) : Type 0 where
  pub kept : length scratch' ≡ length scratch
  pub is :
      (t : Table) (b : List ℕ) (e : Table) → Against t b e terminals kinds tokens sizes bindings file_kinds declared →
      type_nodes_in t b e bindings (span lo (hi - lo)) (kinds_of scratch) ≡ typing_of r scratch'

-- the columns of a file that is read, and the column of what it declares
pub record OfFile (t : Table) (terminals kinds tokens sizes bindings declared : List ℕ) : Type 0 where
  pub read : Read file t
  pub terminals_are : t.terminals ≡ terminals
  pub kinds_are : t.kinds ≡ kinds
  pub tokens_are : t.tokens ≡ tokens
  pub sizes_are : t.sizes ≡ sizes
  pub declares : DeclaredColumn t bindings declared

-- THE TYPING OF A FILE'S CONSTANTS, whatever the lent column held: typed, or the first fault
pub record TypesConstants (terminals kinds tokens sizes bindings declared scratch scratch' : List ℕ) (r : Result (Unit {0}) IllTyped) : Type 0 where
  pub kept : length scratch' ≡ length scratch
  pub is : (t : Table) → OfFile t terminals kinds tokens sizes bindings declared → count t ≤ length scratch → r ≡ outcome (typing t bindings)

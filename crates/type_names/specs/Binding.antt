-- The names of types and supertypes of a file are bound: stage 2 of N19.
use Rattle.std.specs.Prelude.{◌≡◌, List, ℕ, ◌≤◌, length, Option}
use Rattle.express.specs.Syntax.Tree.{Table, count, schema_of}
use Rattle.scopes.specs.Range.{node_of}
use Rattle.faults.specs.declared.Fault.{Fault}
use Rattle.dependencies.specs.Target.{type_target}
use Rattle.dependencies.specs.Graph.{Room}
use Rattle.type_names.specs.Pass.{PassesRange, PassedAll}
use Rattle.type_names.specs.TypeName.{type_names, FileColumns}
use Rattle.type_names.specs.declared.Progress.{Progress}

module _ (kinds tokens roles symbols starts keys nodes heads next : List ℕ) where
  -- the schema of a declaration
  pub record RangeAsked (schema : ℕ) (t : Table) (v : ℕ) : Type 0 where
    pub columns : FileColumns t kinds tokens roles symbols starts keys nodes heads next
    pub schema_is : schema ≡ schema_of t (node_of t v)

  -- `bind_range`
  abbrev pub BindsRange : ℕ → ℕ → ℕ → Progress → List ℕ → List ℕ → ℕ → Progress → List ℕ → List ℕ → Type 0
  BindsRange schema lo hi = PassesRange (RangeAsked schema) type_names lo hi

  -- the columns are those of a file, and those to be written are as long as they must be
  pub record FileAsked (bound first to : ℕ) (t : Table) : Type 0 where
    pub columns : FileColumns t kinds tokens roles symbols starts keys nodes heads next
    pub bound_room : count t ≤ bound
    pub graph_room : Room t (type_target t) first to

  -- `bind_type_names`: the fault of stage 2, the bindings of the names of types and zeros for all other nodes, and the graph of N7
  pub record BindsTypeNames (bound first to : List ℕ) (r : Option Fault) (bound' first' to' : List ℕ) : Type 0 where
    pub is : (t : Table) → FileAsked (length bound) (length first) (length to) t → PassedAll t (type_names t) r bound' first' to'

-- All names of a file are bound, stage after stage (N19), over columns that are as long as its dictionary and its graphs.
use Rattle.std.specs.Prelude.{◌≡◌, List, ℕ, ◌+◌, ◌≤◌, ◌<◌, length, get_or, take, Option}
use Rattle.relations.specs.Reach.{Joins}
use Rattle.relations.specs.Sorted.{Arranged}
use Rattle.express.specs.Syntax.Tree.{Table, count}
use Rattle.express.specs.Tokens.Scanned.{Scanned}
use Rattle.express.specs.Names.Scope.{type_edges, binding}
use Rattle.express.specs.Names.Fault.{constant_edges}
use Rattle.express.specs.Names.Names.{names}
use Rattle.scopes.specs.Range.{vertex_count, declared_nodes}
use Rattle.faults.specs.Meaning.{fault_of}
use Rattle.faults.specs.declared.Fault.{Fault}
use Rattle.dependencies.specs.Target.{type_target, constant_target}
use Rattle.dependencies.specs.Graph.{Room}
use Rattle.type_names.specs.TypeName.{FileColumns}
use Rattle.symbol_tables.specs.Entry.{stamp_count}
use Rattle.name_stages.specs.Stages.{OrderRoom}

-- room for what each stage writes: bindings, two graphs and two orders; and for what is inherited an entry for each symbol, one for each vertex and one more, and
-- a stamp for each vertex
pub record BindingRoom (t : Table) (bound first to types constants scratch : List ℕ) : Type 0 where
  pub bound_room : count t ≤ length bound
  pub type_graph : Room t (type_target t) (length first) (length to)
  pub constant_graph : Room t (constant_target t) (length first) (length to)
  pub type_order : OrderRoom t types scratch
  pub constant_order : OrderRoom t constants scratch
  pub entry_room : length t.symbols + vertex_count t < length scratch
  pub stamps : vertex_count t < stamp_count

-- THE NAMES of a file: the fault of the first stage that has one; and where there is none, what each node is bound to, and an order of the
-- declarations in which a type comes after those that it is made of, and one in which a constant comes after those that it names
pub record NamesBound (t : Table) (r : Option Fault) (bound types constants : List ℕ) : Type 0 where
  pub reply : fault_of r ≡ names t
  pub entries : (fault_of r).number ≡ 0 → (n : ℕ) → n < count t → get_or bound n 0 ≡ binding t n
  pub types_arranged : (fault_of r).number ≡ 0 → Arranged (Joins (type_edges t)) (declared_nodes t) (take (vertex_count t) types)
  pub constants_arranged : (fault_of r).number ≡ 0 → Arranged (Joins (constant_edges t)) (declared_nodes t) (take (vertex_count t) constants)

-- `bind_names`
pub record BindsNames (kinds tokens sizes roles symbols starts keys nodes heads next bound first to types constants scratch : List ℕ) (r : Option Fault) (bound' types' constants' : List ℕ) :
    Type 0 where
  pub is :
      (t : Table) → Scanned t → FileColumns t kinds tokens roles symbols starts keys nodes heads next → sizes ≡ t.sizes →
      BindingRoom t bound first to types constants scratch → NamesBound t r bound' types' constants'

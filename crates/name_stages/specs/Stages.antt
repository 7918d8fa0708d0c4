-- The stages of names (N19) over the columns of a file.
use Rattle.std.specs.Prelude.{◌≡◌, cond, List, ℕ, ◌≤◌, ◌<◌, length, get_or, take, Option}
use Rattle.relations.specs.Reach.{Joins}
use Rattle.relations.specs.Sorted.{Arranged}
use Rattle.express.specs.Syntax.NodeKind.{constant}
use Rattle.express.specs.Syntax.Tree.{Table, count, is}
use Rattle.express.specs.Syntax.Tree as tree
use Rattle.express.specs.Tokens.Scanned.{Scanned}
use Rattle.express.specs.Names.Scope.{binding}
use Rattle.express.specs.Names.Fault.{or_later, repeated, type_name_fault, cyclic, expression, constant_edges}
use Rattle.express.specs.Names.Names.{least}
use Rattle.cycles.specs.State.{needed}
use Rattle.scopes.specs.Range.{vertex_count, declared_nodes}
use Rattle.faults.specs.Meaning.{fault_of}
use Rattle.faults.specs.declared.Fault.{Fault}
use Rattle.dependencies.specs.Target.{type_target, constant_target}
use Rattle.dependencies.specs.Graph.{GraphOf}
use Rattle.type_names.specs.TypeName.{is_type_name}
use Rattle.type_names.specs.Binding as types
use Rattle.uses.specs.Binding as uses

-- room for an order of the declarations, and for what the search for one needs
pub record OrderRoom (t : Table) (order scratch : List ℕ) : Type 0 where
  pub order_room : vertex_count t ≤ length order
  pub scratch_room : needed (vertex_count t) ≤ length scratch

-- ---- the stages 1 and 2: declared twice, names of types

-- the fault of the first of them that has one; the bindings of the names of types, and zeros; and the graph of N7
pub record DeclarationsBound (t : Table) (r : Option Fault) (bound first to : List ℕ) : Type 0 where
  pub reply : fault_of r ≡ or_later (least (repeated t) (tree.nodes t)) (least (type_name_fault t) (tree.nodes t))
  pub entries : (n : ℕ) → n < count t → get_or bound n 0 ≡ cond (is_type_name t n) (binding t n) 0
  pub graph : GraphOf t (type_target t) first to

-- `bind_declarations`
pub record BindsDeclarations (kinds tokens roles symbols starts keys nodes heads next bound first to : List ℕ) (r : Option Fault) (bound' first' to' : List ℕ) : Type 0 where
  pub is :
      (t : Table) → types.FileAsked kinds tokens roles symbols starts keys nodes heads next (length bound) (length first) (length to) t → DeclarationsBound t r bound' first' to'

-- ---- the stages 4 and 5: names in expressions, cycles of constants

pub record ExpressionsBound (t : Table) (r : Option Fault) (bound first to order : List ℕ) : Type 0 where
  pub reply : fault_of r ≡ or_later (least (expression t) (tree.nodes t)) (least (cyclic t (is t constant) (constant_edges t)) (tree.nodes t))
  pub entries : (n : ℕ) → n < count t → get_or bound n 0 ≡ binding t n
  pub graph : GraphOf t (constant_target t) first to
  pub arranged : (fault_of r).number ≡ 0 → Arranged (Joins (constant_edges t)) (declared_nodes t) (take (vertex_count t) order)

-- `bind_expressions`
pub record BindsExpressions (kinds tokens sizes roles symbols starts keys nodes heads next bound first to order scratch : List ℕ) (r : Option Fault) (bound' first' to' order' : List ℕ) :
    Type 0 where
  pub is :
      (t : Table) → Scanned t → uses.FileAsked kinds tokens sizes roles symbols starts keys nodes heads next bound (length first) (length to) (length scratch) t → OrderRoom t order scratch →
      ExpressionsBound t r bound' first' to' order'

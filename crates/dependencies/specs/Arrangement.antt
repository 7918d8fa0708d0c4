-- The declarations of a file in an order in which each stands after all that it has edges to, or the first that lies on a cycle.
use Rattle.std.specs.Prelude.{◌≡◌, Bool, true, List, ◌++◌, map, ℕ, ◌≤◌, ◌<◌, length, get_or, take, drop, Option}
use Rattle.columns.specs.Column.{cleared_before}
use Rattle.relations.specs.Reach.{Edge, Joins}
use Rattle.relations.specs.Sorted.{Arranged}
use Rattle.express.specs.Syntax.Tree.{Table, place, nodes, is_declaration}
use Rattle.express.specs.Names.Fault.{cyclic}
use Rattle.express.specs.Names.Names.{least}
use Rattle.cycles.specs.State.{needed}
use Rattle.scopes.specs.Range.{declared_nodes, vertex_count, node_of}
use Rattle.faults.specs.Meaning.{fault_of}
use Rattle.faults.specs.declared.Fault.{Fault}
use Rattle.dependencies.specs.Target.{Edges}
use Rattle.dependencies.specs.Graph.{GraphOf}

-- a column in which the first n entries are vertices, and the same with their nodes
unfoldable pub named : List ℕ → ℕ → List ℕ → List ℕ
named nodes n order = map (λ (v : ℕ). get_or nodes v 0) (take n order) ++ drop n order

-- of two declarations that of the later node stands no earlier in the text
abbrev pub InTextOrder : Table → Type 0
InTextOrder t = (x y : ℕ) → is_declaration t x ≡ true → is_declaration t y ≡ true → x < y → place t x ≤ place t y

-- The columns are those of a file with these edges, and there is room.
pub record Asked (t : Table) (target : ℕ → ℕ) (p : ℕ → Bool) (es : List Edge) (tokens starts nodes first to order scratch : List ℕ) : Type 0 where
  pub tokens_are : tokens ≡ t.tokens
  pub starts_are : starts ≡ t.starts
  pub nodes_are : (v : ℕ) → v < vertex_count t → get_or nodes v 0 ≡ node_of t v
  pub text_order : InTextOrder t
  pub graph : GraphOf t target first to
  pub edges : Edges t target p es
  pub order_room : vertex_count t ≤ length order
  pub scratch_room : needed (vertex_count t) ≤ length scratch

-- N8, N17: the reply, and where there is no cycle the order; where there is one, the column is as it was.
pub record Answer (t : Table) (p : ℕ → Bool) (es : List Edge) (order scratch : List ℕ) (r : Option Fault) (order' scratch' : List ℕ) : Type 0 where
  pub reply : fault_of r ≡ least (cyclic t p es) (nodes t)
  pub arranged : (fault_of r).number ≡ 0 → Arranged (Joins es) (declared_nodes t) (take (vertex_count t) order')
  pub kept : ((fault_of r).number ≡ 0 → ⊥) → order' ≡ order
  pub order_rest : drop (vertex_count t) order' ≡ drop (vertex_count t) order
  pub scratch_is : scratch' ≡ cleared_before 0 (needed (vertex_count t)) scratch

-- `arrange`, whatever the columns hold
pub record Arranges (tokens starts nodes first to order scratch : List ℕ) (r : Option Fault) (order' scratch' : List ℕ) : Type 0 where
  pub order_long : length order' ≡ length order
  pub scratch_long : length scratch' ≡ length scratch
  pub is :
      (t : Table) (target : ℕ → ℕ) (p : ℕ → Bool) (es : List Edge) → Asked t target p es tokens starts nodes first to order scratch →
      Answer t p es order scratch r order' scratch'

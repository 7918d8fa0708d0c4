-- The graph that the names of types make is that of the edges of types and entities (N7), once these names are in order.
use mathlib.Core.List.{List}
use Prim.Native.Nat.{ℕ}
use Rattle.express.specs.Syntax.Tree.{Table, nodes}
use Rattle.express.specs.Syntax.Grammar.{file}
use Rattle.express.specs.Syntax.Syntax.{Read}
use Rattle.express.specs.Names.Fault.{type_name_fault}
use Rattle.express.specs.Names.Names.{Passes}
use Rattle.scopes.specs.Range.{node_of}
use Rattle.scopes.proofs.Ranges.{node_number}
use Rattle.dependencies.specs.Target.{type_target}
use Rattle.dependencies.specs.Graph.{GraphOf}
use Rattle.dependencies.proofs.Cycle.{arc_leads, leads_arc}
use Rattle.dependencies.proofs.Instances.{type_arcs, type_bound, type_edge_iff}
use Rattle.inheritance.specs.Steps.{TypeGraph}

pub type_graph : {t : Table} {first to : List ℕ} → Read file t → Passes (nodes t) (type_name_fault t) → GraphOf t (type_target t) first to → TypeGraph t first to
type_graph {t} {first} {to} d right G =
    record {
      long = G.long;
      graph = G.graph;
      arc_iff =
          λ v w l h. (
            λ A. (type_edge_iff d right (node_of t v) (node_of t w)).1 (type_bound d right (node_of t v) (node_of t w) (arc_leads G (type_arcs d right) v w A)),
            λ e.
                let a = leads_arc G (type_arcs d right) (node_of t v) (node_of t w) ((type_arcs d right).arc (node_of t v) (node_of t w) e) in
                let p = node_number t v l in
                let q = node_number t w h in
                rw (p, q) at a,
          );
    }

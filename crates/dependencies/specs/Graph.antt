-- How the arcs of a file come to stand in two columns: from the last node to the first, from the end of the second column.
use Rattle.std.specs.Prelude.{◌≡◌, ◌↔◌, cond, List, ◌++◌, ℕ, ◌+◌, ◌-◌, ◌≤◌, ◌<◌, eqb, length, get_or, set, take}
use Rattle.graph.specs.Graph.{Graph, Arc}
use Rattle.express.specs.Syntax.Tree.{Table}
use Rattle.scopes.specs.Range.{vertex_count, node_of, range_start}
use Rattle.dependencies.specs.Target.{led_to_from}

-- one arc more, before those that are stored; none for the target 0
pub record Added (to : List ℕ) (arcs target : ℕ) (r : ℕ) (to' : List ℕ) : Type 0 where
  pub arcs_are : r ≡ cond (eqb target 0) arcs (arcs - 1)
  pub to_is : to' ≡ cond (eqb target 0) to (set to (arcs - 1) (target - 1))

-- room for an offset for each vertex and one more, and for all arcs
pub record Room (t : Table) (target : ℕ → ℕ) (offsets places : ℕ) : Type 0 where
  pub offsets_are : offsets ≡ vertex_count t + 1
  pub few : vertex_count t ≤ 65536
  pub enough : length (led_to_from t target 0) ≤ places
  pub small : places < 4294967296

-- the arcs of the nodes from i on are stored at the end of a column; what is before them is as it was
pub record Storing (t : Table) (target : ℕ → ℕ) (was : List ℕ) (i arcs : ℕ) (to : List ℕ) : Type 0 where
  pub room : length (led_to_from t target 0) ≤ length was
  pub fits : arcs + length (led_to_from t target i) ≡ length was
  pub is : to ≡ take arcs was ++ led_to_from t target i

-- and the offsets of the vertices from v on, but v's own
pub record Building (t : Table) (target : ℕ → ℕ) (was : List ℕ) (v : ℕ) (first : List ℕ) (arcs : ℕ) (to : List ℕ) : Type 0 where
  pub room : Room t target (length first) (length was)
  pub within : v ≤ vertex_count t
  pub offsets : (w : ℕ) → v < w → w ≤ vertex_count t → get_or first w 0 ≡ length was - length (led_to_from t target (range_start t w))
  pub storing : Storing t target was (range_start t v) arcs to

-- a node of the declaration v leads to w
pub record Names (t : Table) (target : ℕ → ℕ) (v w : ℕ) : Type 0 where
  pub node : ℕ
  pub source : v < vertex_count t
  pub from : range_start t v ≤ node
  pub upto : node ≤ node_of t v
  pub target_is : target node ≡ w + 1

-- THE GRAPH of a file
pub record GraphOf (t : Table) (target : ℕ → ℕ) (first to : List ℕ) : Type 0 where
  pub long : length first ≡ vertex_count t + 1
  pub graph : Graph first to
  pub arc_iff : (v w : ℕ) → Arc first to v w ↔ Names t target v w

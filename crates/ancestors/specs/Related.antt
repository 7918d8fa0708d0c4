-- Rows that say what is reached.
use Rattle.std.specs.Prelude.{◌≡◌, ◌↔◌, Bool, true, false, cond, List, ℕ, ◌*◌, ◌<◌, ltb, length, get_or}
use Rattle.columns.specs.Column.{cleared}
use Rattle.relations.specs.Reach.{Reaches}
use Rattle.graph.specs.Graph.{vertices, Graph, Arc}
use Rattle.bit_rows.specs.Bits.{word, bit}
use Rattle.ancestors.specs.Rows.{width_limit, place, vertices_joined, vertices_closed}

-- vertices with ranks above 0, no two the same; the arcs of those lead to such
pub record Ranked (first to ranks : List ℕ) (width : ℕ) : Type 0 where
  pub graph : Graph first to
  pub long : length ranks ≡ vertices first
  pub small : (v : ℕ) → get_or ranks v 0 < width * word
  pub once : (v w : ℕ) → v < vertices first → w < vertices first → 0 < get_or ranks v 0 → get_or ranks v 0 ≡ get_or ranks w 0 → v ≡ w
  pub onward : (v w : ℕ) → Arc first to v w → 0 < get_or ranks v 0 → 0 < get_or ranks w 0

-- THE ROWS: bit j of row i says whether the vertex of rank i reaches that of rank j; in row 0 stands what any of them reaches
pub record Related (first to ranks : List ℕ) (width : ℕ) (rows : List ℕ) : Type 0 where
  pub reached : (v w : ℕ) → v < vertices first → w < vertices first → 0 < get_or ranks v 0 → 0 < get_or ranks w 0
      → (bit rows (place width (get_or ranks v 0) (get_or ranks w 0)) ≡ true) ↔ Reaches (Arc first to) v w
  pub by_any : (v w : ℕ) → 0 < get_or ranks v 0 → Reaches (Arc first to) v w → bit rows (get_or ranks w 0) ≡ true

-- `relate`: the rows are those that the arcs give in that order, and it is told whether no arc would add to them; then they say what is reached
-- (`related` of proofs/Relating)
pub record Relates (first to ranks order : List ℕ) (width : ℕ) (rows : List ℕ) (r : Bool) (rows' : List ℕ) : Type 0 where
  pub rows_are : rows' ≡ cond (ltb width_limit width) rows (vertices_joined first to ranks order width (length order) (cleared 0 0 rows))
  pub answer : r ≡ cond (ltb width_limit width) false (vertices_closed first to ranks width (length ranks) rows')
  pub is : r ≡ true → Ranked first to ranks width → Related first to ranks width rows'

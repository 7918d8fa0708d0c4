-- Places that are an order, as a test tells, and what is left in what was lent.
use Rattle.std.specs.Prelude.{◌≡◌, ◌⊎◌, Bool, true, false, List, ℕ, ◌+◌, ◌≤◌, ◌<◌, length, get_or}
use Rattle.columns.specs.Column.{cleared_before}
use Rattle.graph.specs.Graph.{vertices, Graph}
use Rattle.cycles.specs.State.{needed}
use Rattle.cycles.specs.Answer.{Acyclic, Lent, Zeros, Ordered, InOrder, no_cycle}

-- Scratch s has the place of vertex v at v, and the vertex at place k behind the places of all n vertices, at n + k.

-- the arcs from one place up to another lead to vertices before place p
pub record Falls (to s : List ℕ) (p from end : ℕ) : Type 0 where
  pub is : (e : ℕ) → from ≤ e → e < end → get_or s (get_or to e 0) 0 < p

-- of all vertices below m: each has a place and each place a vertex, the one tells the other, and every arc of a vertex leads to an earlier place
pub record Places (first to : List ℕ) (n : ℕ) (s : List ℕ) (m : ℕ) : Type 0 where
  pub place_low : (v : ℕ) → v < m → get_or s v 0 < n
  pub vertex_low : (k : ℕ) → k < m → get_or s (n + k) 0 < n
  pub there : (v : ℕ) → v < m → get_or s (n + get_or s v 0) 0 ≡ v
  pub back : (k : ℕ) → k < m → get_or s (get_or s (n + k) 0) 0 ≡ k
  pub falls : (v : ℕ) → v < m → Falls to s (get_or s v 0) (get_or first v 0) (get_or first (v + 1) 0)

-- the vertices stand at their places in a column of so many entries
pub record Copies (s : List ℕ) (n : ℕ) (order' : List ℕ) (room : ℕ) : Type 0 where
  pub is : (k : ℕ) → k < n → k < room → get_or order' k 0 ≡ get_or s (n + k) 0

-- the same where they are sorted; else the column is as it was
abbrev pub CopiesIf : Bool → List ℕ → ℕ → List ℕ → List ℕ → Type 0
CopiesIf true s n order order' = Copies s n order' (length order)
CopiesIf false s n order order' = order' ≡ order

-- `sort_in`
pub record SortsIn (first to order s : List ℕ) (r : Bool) (order' s' : List ℕ) : Type 0 where
  pub sorted : r ≡ true → length order ≡ vertices first → Ordered first to order' × Acyclic first to
  pub kept : r ≡ false → order' ≡ order
  pub zeros : Zeros s s'

-- zeros stand in the part of scratch that a search needs, where there is room and a graph
pub record Cleared (first to : List ℕ) (was is : Lent) : Type 0 where
  pub graph : Graph first to
  pub column_room : vertices first ≤ length was.column
  pub scratch_room : needed (vertices first) ≤ length was.scratch
  pub scratch_is : is.scratch ≡ cleared_before 0 (needed (vertices first)) was.scratch

-- `sort`: an order and no cycle; or the column is as it was, and scratch too or cleared
abbrev pub Sorts : List ℕ → List ℕ → Lent → Lent → Bool → Type 0
Sorts first to was is true = InOrder first to no_cycle was is
Sorts first to was is false = (is.column ≡ was.column) × ((is.scratch ≡ was.scratch) ⊎ Cleared first to was is)

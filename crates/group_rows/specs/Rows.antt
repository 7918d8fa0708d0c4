-- The rows of vertices: six numbers each, the group of the vertex and its place first.
use Rattle.std.specs.Prelude.{◌≡◌, List, ℕ, ◌+◌, ◌*◌, ◌≤◌, ◌<◌, length, get_or}
use Rattle.graph.specs.Graph.{vertices, Graph}

-- the k-th of the six numbers of an index
abbrev pub cell : List ℕ → ℕ → ℕ → ℕ
cell s k i = get_or s (6 * i + k) 0

-- v is a vertex of a graph whose vertices have rows
pub record Grouped (first to s : List ℕ) (v : ℕ) : Type 0 where
  pub graph : Graph first to
  pub low : v < vertices first
  pub room : 6 * vertices first ≤ length s

-- a vertex that has an arc into its own group
pub record Inner (first to s : List ℕ) (v : ℕ) : Type 0 where
  pub place : ℕ
  pub from : get_or first v 0 ≤ place
  pub upto : place < get_or first (v + 1) 0
  pub same : cell s 0 (get_or to place 0) ≡ cell s 0 v

-- each of the numbers below n is put at its place
pub record Arrangeable (order s : List ℕ) (n : ℕ) : Type 0 where
  pub small : n ≤ 65536
  pub order_room : n ≤ length order
  pub scratch_room : 6 * n ≤ length s
  pub low : (v : ℕ) → v < n → cell s 1 v < n
  pub once : (v w : ℕ) → v < n → w < n → cell s 1 v ≡ cell s 1 w → v ≡ w

pub record Arranged (s order' : List ℕ) (n : ℕ) : Type 0 where
  pub is : (v : ℕ) → v < n → get_or order' (cell s 1 v) 0 ≡ v

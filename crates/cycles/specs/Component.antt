-- Strongly connected components, numbered so that no arc leads to a later one.
use Rattle.std.specs.Prelude.{◌≡◌, List, ℕ, ◌+◌, ◌≤◌, ◌<◌}
use Rattle.relations.specs.Reach.{Reaches}
use Rattle.graph.specs.Graph.{vertices, Arc}
use Rattle.cycles.specs.State.{State}

-- over no arc or more
pub data Leads (E : ℕ → ℕ → Type 0) (a b : ℕ) : Type 0 where
  stays : a ≡ b → Leads E a b
  goes : Reaches E a b → Leads E a b

-- The vertices whose group is 2 or more are closed; so many are finished. Their places are the numbers below that, each once; a group is a range of
-- places, and its number its first place, plus 2. Vertices of one group reach each other; an arc leads to the same group or to an earlier one.
pub record Components (first to : List ℕ) (x : State) (n finished : ℕ) : Type 0 where
  pub place_low : (v : ℕ) → v < n → 2 ≤ x.group v → x.place v < finished
  pub starts : (v : ℕ) → v < n → 2 ≤ x.group v → x.group v ≤ x.place v + 2
  pub ranges : (v w : ℕ) → v < n → w < n → 2 ≤ x.group v → 2 ≤ x.group w → x.group w < x.group v → x.place w + 2 < x.group v
  pub once : (v w : ℕ) → v < n → w < n → 2 ≤ x.group v → 2 ≤ x.group w → x.place v ≡ x.place w → v ≡ w
  pub all : (k : ℕ) → k < finished → (v : ℕ) × (v < n) × (2 ≤ x.group v) × (x.place v ≡ k)
  pub falls : (v w : ℕ) → v < n → 2 ≤ x.group v → Arc first to v w → (2 ≤ x.group w) × (x.group w ≤ x.group v)
  pub leads : (v w : ℕ) → v < n → w < n → 2 ≤ x.group v → 2 ≤ x.group w → x.group v ≡ x.group w → Leads (Arc first to) v w

-- every vertex is closed
pub record Finished (first to : List ℕ) (x : State) : Type 0 where
  pub components : Components first to x (vertices first) (vertices first)
  pub closed : (v : ℕ) → v < vertices first → 2 ≤ x.group v

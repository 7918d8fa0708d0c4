-- Directed graphs, their arcs grouped by source: the arcs of vertex v are the places first[v] up to first[v + 1] of `to`.
use Rattle.std.specs.Prelude.{◌≡◌, Bool, true, false, List, ℕ, ◌+◌, ◌-◌, ◌≤◌, ◌<◌, length, get_or}
use Rattle.relations.specs.Reach.{Reaches}

-- the vertices are the numbers below this one
abbrev pub vertices : List ℕ → ℕ
vertices first = length first - 1

-- offsets that never fall, and targets that are vertices
pub record Graph (first to : List ℕ) : Type 0 where
  pub some : 0 < length first
  pub small : vertices first ≤ 65536
  pub rise : (v : ℕ) → v < vertices first → get_or first v 0 ≤ get_or first (v + 1) 0
  pub end : get_or first (vertices first) 0 ≤ length to
  pub below : (e : ℕ) → get_or first 0 0 ≤ e → e < get_or first (vertices first) 0 → get_or to e 0 < vertices first

-- an arc from v to w: v depends on w
pub record Arc (first to : List ℕ) (v w : ℕ) : Type 0 where
  pub place : ℕ
  pub from : get_or first v 0 ≤ place
  pub upto : place < get_or first (v + 1) 0
  pub target : get_or to place 0 ≡ w

-- v lies on a cycle: it reaches itself over one or more arcs
abbrev pub OnCycle : List ℕ → List ℕ → ℕ → Type 0
OnCycle first to v = Reaches (Arc first to) v v

-- what a test says: it is true exactly if P holds
pub record Tells (P : Type 0) (r : Bool) : Type 0 where
  pub yes : r ≡ true → P
  pub no : r ≡ false → P → ⊥

-- The search for strongly connected components along a path of groups (Purdom and Munro; Gabow): groups of open vertices are ranges of the
-- stack, and the search merges them when an arc leads back. So many vertices are open (the height of the stack), so many of them are on the
-- path (its depth), they form so many groups, and so many vertices are finished.
use Rattle.std.specs.Prelude.{◌≡◌, ◌⊎◌, List, ℕ, ◌+◌, ◌≤◌, ◌<◌, length, get_or}
use Rattle.graph.specs.Graph.{vertices, Graph, Arc}
use Rattle.graph.specs.Mark.{nonzero}
use Rattle.cycles.specs.State.{State, state, needed}
use Rattle.cycles.specs.Component.{Leads, Components}
use Rattle.cycles.specs.declared.Counts.{Counts}

-- the place at which a group starts
abbrev pub start : State → ℕ → ℕ
start x g = x.path (x.bound g)

-- no group starts after place j and not after place i: j is not before the group of i
abbrev pub Within : State → ℕ → ℕ → ℕ → Type 0
Within x groups i j = (g : ℕ) → g < groups → start x g ≤ i → start x g ≤ j

pub record Opened (x : State) (n height : ℕ) : Type 0 where
  pub low : (i : ℕ) → i < height → x.stack i < n
  pub mark : (i : ℕ) → i < height → x.group (x.stack i) ≡ 1
  pub back : (i : ℕ) → i < height → x.place (x.stack i) ≡ i
  pub found : (v : ℕ) → v < n → x.group v ≡ 1 → x.place v < height
  pub is : (v : ℕ) → v < n → x.group v ≡ 1 → x.stack (x.place v) ≡ v

pub record Line (x : State) (height depth groups : ℕ) : Type 0 where
  pub low : (k : ℕ) → k < depth → x.path k < height
  pub rise : (j k : ℕ) → j < k → k < depth → x.path j < x.path k
  pub first : 0 < depth → x.path 0 ≡ 0
  pub none : depth ≡ 0 → height ≡ 0
  pub bound_low : (g : ℕ) → g < groups → x.bound g < depth
  pub bound_rise : (g h : ℕ) → g < h → h < groups → x.bound g < x.bound h
  pub bound_some : 0 < depth → 0 < groups
  pub bound_first : 0 < groups → x.bound 0 ≡ 0

-- where an arc that was passed leads: from place i, to w
abbrev pub Settled : State → ℕ → ℕ → ℕ → Type 0
Settled x groups i w = (2 ≤ x.group w) ⊎ ((x.group w ≡ 1) × Within x groups i (x.place w))

-- the arcs of the open vertices before the next one are passed; of those that are not on the path, all are
pub record Passed (first to : List ℕ) (x : State) (height depth groups : ℕ) : Type 0 where
  pub low : (i : ℕ) → i < height → get_or first (x.stack i) 0 ≤ x.next_arc (x.stack i)
  pub high : (i : ℕ) → i < height → x.next_arc (x.stack i) ≤ get_or first (x.stack i + 1) 0
  pub settled : (i e : ℕ) → i < height → get_or first (x.stack i) 0 ≤ e → e < x.next_arc (x.stack i) → Settled x groups i (get_or to e 0)
  pub spent : (i : ℕ) → i < height → (get_or first (x.stack i + 1) 0 ≤ x.next_arc (x.stack i)) ⊎ ((k : ℕ) × (k < depth) × (x.path k ≡ i))

pub record Search (first to : List ℕ) (x : State) (n root height depth groups finished : ℕ) : Type 0 where
  pub graph : Graph first to
  pub count : n ≡ vertices first
  pub counted : nonzero x.group n ≡ height + finished
  pub root_low : root ≤ n
  pub roots : (v : ℕ) → v < root → 0 < x.group v
  pub opened : Opened x n height
  pub line : Line x height depth groups
  pub passed : Passed first to x height depth groups
  -- an open vertex leads to every open one that is not before its group
  pub leads : (i j : ℕ) → i < height → j < height → Within x groups i j → Leads (Arc first to) (x.stack i) (x.stack j)
  pub components : Components first to x n finished

-- the search, as far as the code has come
pub record Going (first to s : List ℕ) (c : Counts) : Type 0 where
  pub search : Search first to (state s) (vertices first) c.root c.height c.depth c.groups c.finished
  pub room : length s ≡ needed (vertices first)

-- before it: a graph, and scratch for its vertices
pub record Ready (first to s : List ℕ) : Type 0 where
  pub graph : Graph first to
  pub room : length s ≡ needed (vertices first)

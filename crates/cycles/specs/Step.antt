-- One step of the search: what was found that it does next, what it writes, and how far the search is then.
use Rattle.std.specs.Prelude.{◌≡◌, ◌⊎◌, List, ℕ, ◌+◌, ◌*◌, ◌-◌, ◌≤◌, ◌<◌, length, get_or, Option, Some, None}
use Rattle.graph.specs.Graph.{vertices, Arc}
use Rattle.cycles.specs.State.{State, cell, store}
use Rattle.cycles.specs.Search.{start}
use Rattle.cycles.specs.declared.Step.{Step}
use Rattle.cycles.specs.declared.Step.TheVariants.{Done, Skip, Enter, Join, Pass, Leave, Close}
use Rattle.cycles.specs.declared.Counts.{Counts}

-- the vertex at the end of the path
abbrev pub top : State → ℕ → ℕ
top x depth = x.stack (x.path (depth - 1))

pub record ToStop (first : List ℕ) (root depth : ℕ) : Type 0 where
  pub none : depth ≡ 0
  pub last : vertices first ≤ root

pub record ToSkip (first : List ℕ) (x : State) (root depth : ℕ) : Type 0 where
  pub none : depth ≡ 0
  pub low : root < vertices first
  pub seen : x.group root ≡ 0 → ⊥

pub record ToEnter (first to : List ℕ) (x : State) (depth w : ℕ) : Type 0 where
  pub low : w < vertices first
  pub new : x.group w ≡ 0
  pub arc : 0 < depth → Arc first to (top x depth) w

-- an arc leads back to an earlier group of open vertices
pub record ToJoin (first to : List ℕ) (x : State) (depth groups : ℕ) : Type 0 where
  pub some : 0 < depth
  pub target : ℕ
  pub arc : Arc first to (top x depth) target
  pub opened : x.group target ≡ 1
  pub back : x.place target < start x (groups - 1)

-- a vertex that is closed, or open and not before the last group
abbrev pub Settles : State → ℕ → ℕ → Type 0
Settles x groups w = (2 ≤ x.group w) ⊎ ((x.group w ≡ 1) × (start x (groups - 1) ≤ x.place w))

-- the next arc of the end of the path leads to a closed vertex, or to its own group
pub record ToPass (first to : List ℕ) (x : State) (depth groups v e : ℕ) : Type 0 where
  pub some : 0 < depth
  pub vertex : v ≡ top x depth
  pub more : x.next_arc v < get_or first (v + 1) 0
  pub next : e ≡ x.next_arc v + 1
  pub there : Settles x groups (get_or to (x.next_arc v) 0)

pub record ToLeave (first : List ℕ) (x : State) (depth groups : ℕ) : Type 0 where
  pub some : 0 < depth
  pub spent : get_or first (top x depth + 1) 0 ≤ x.next_arc (top x depth)
  pub inside : x.bound (groups - 1) ≡ depth - 1 → ⊥

pub record ToClose (first : List ℕ) (x : State) (depth groups from : ℕ) : Type 0 where
  pub some : 0 < depth
  pub spent : get_or first (top x depth + 1) 0 ≤ x.next_arc (top x depth)
  pub starts : x.bound (groups - 1) ≡ depth - 1
  pub place : from ≡ x.path (depth - 1)

-- what each step was chosen for
abbrev pub Chosen : List ℕ → List ℕ → State → ℕ → ℕ → ℕ → Step → Type 0
Chosen first to x root depth groups Done = ToStop first root depth
Chosen first to x root depth groups Skip = ToSkip first x root depth
Chosen first to x root depth groups (Enter w) = ToEnter first to x depth w
Chosen first to x root depth groups Join = ToJoin first to x depth groups
Chosen first to x root depth groups (Pass v e) = ToPass first to x depth groups v e
Chosen first to x root depth groups Leave = ToLeave first x depth groups
Chosen first to x root depth groups (Close from) = ToClose first x depth groups from

-- ---- the next arc, e, of the end of the path, v

-- what is read is there
pub record Followable (to s : List ℕ) (groups e : ℕ) : Type 0 where
  pub arc_low : e < length to
  pub target_low : 6 * get_or to e 0 + 5 < length s
  pub some : 0 < groups
  pub bound_low : 6 * (groups - 1) + 5 < length s
  pub path_low : 6 * cell s 5 (groups - 1) + 5 < length s

-- where it leads
abbrev pub Followed : List ℕ → State → ℕ → ℕ → ℕ → Step → Type 0
Followed to x groups v e (Enter w) = (w ≡ get_or to e 0) × (x.group w ≡ 0)
Followed to x groups v e Join = (x.group (get_or to e 0) ≡ 1) × (x.place (get_or to e 0) < start x (groups - 1))
Followed to x groups v e (Pass u f) = (u ≡ v) × (f ≡ e + 1) × Settles x groups (get_or to e 0)
Followed to x groups v e Done = ⊥
Followed to x groups v e Skip = ⊥
Followed to x groups v e Leave = ⊥
Followed to x groups v e (Close from) = ⊥

-- ---- what a step writes

-- vertex w becomes the end of the path, and a group of its own
pub record Enterable (first s : List ℕ) (w : ℕ) (c : Counts) : Type 0 where
  pub low : w < length first
  pub room : 6 * w + 5 < length s
  pub stack_room : 6 * c.height + 5 < length s
  pub path_room : 6 * c.depth + 5 < length s
  pub bound_room : 6 * c.groups + 5 < length s
  pub small : length s ≤ 393216

abbrev pub entered : List ℕ → List ℕ → ℕ → Counts → List ℕ
entered first s w c =
    let marked = store s 0 w 1 in
    let placed = store marked 1 w c.height in
    let started = store placed 2 w (get_or first w 0) in
    let stacked = store started 3 c.height w in
    let longer = store stacked 4 c.depth c.height in
    store longer 5 c.groups c.depth

-- the open vertices from a place on are different vertices, with room
pub record Closable (s : List ℕ) (from height finished : ℕ) : Type 0 where
  pub stack_room : 6 * height ≤ length s
  pub small : finished + height ≤ 65536
  pub upto : from ≤ height
  pub room : (i : ℕ) → from ≤ i → i < height → 6 * cell s 3 i + 5 < length s
  pub once : (i j : ℕ) → from ≤ i → i < height → from ≤ j → j < height → cell s 3 i ≡ cell s 3 j → i ≡ j

-- no vertex of the stack from a place up to another
abbrev pub Other : List ℕ → ℕ → ℕ → ℕ → Type 0
Other s from height v = (i : ℕ) → from ≤ i → i < height → cell s 3 i ≡ v → ⊥

-- they have a group, and the next places; all else stays
pub record Closed (s s' : List ℕ) (from height finished : ℕ) : Type 0 where
  pub group_in : (i : ℕ) → from ≤ i → i < height → cell s' 0 (cell s 3 i) ≡ finished + 2
  pub place_in : (i : ℕ) → from ≤ i → i < height → cell s' 1 (cell s 3 i) ≡ finished + (i - from)
  pub group_out : (v : ℕ) → Other s from height v → cell s' 0 v ≡ cell s 0 v
  pub place_out : (v : ℕ) → Other s from height v → cell s' 1 v ≡ cell s 1 v
  pub rest : (k i : ℕ) → 2 ≤ k → k < 6 → cell s' k i ≡ cell s k i
  pub long : length s' ≡ length s

abbrev pub Storable : List ℕ → List ℕ → Step → Counts → Type 0
Storable first s Done c = Unit {0}
Storable first s Skip c = Unit {0}
Storable first s (Enter w) c = Enterable first s w c
Storable first s Join c = Unit {0}
Storable first s (Pass v e) c = (6 * v + 2 < length s) × (e < 4294967296)
Storable first s Leave c = Unit {0}
Storable first s (Close from) c = Closable s from c.height c.finished

abbrev pub Stored : List ℕ → List ℕ → List ℕ → Step → Counts → Type 0
Stored first s s' Done c = s' ≡ s
Stored first s s' Skip c = s' ≡ s
Stored first s s' (Enter w) c = s' ≡ entered first s w c
Stored first s s' Join c = s' ≡ s
Stored first s s' (Pass v e) c = s' ≡ store s 2 v e
Stored first s s' Leave c = s' ≡ s
Stored first s s' (Close from) c = Closed s s' from c.height c.finished

-- ---- the counts after a step

-- no count passes an end
abbrev pub Countable : Step → Counts → Type 0
Countable Done c = Unit {0}
Countable Skip c = c.root ≤ 65536
Countable (Enter w) c = (c.height ≤ 65536) × (c.depth ≤ 65536) × (c.groups ≤ 65536)
Countable Join c = 0 < c.groups
Countable (Pass v e) c = Unit {0}
Countable Leave c = 0 < c.depth
Countable (Close from) c = (from ≤ c.height) × (c.finished + c.height ≤ 65536) × (0 < c.depth) × (0 < c.groups)

abbrev pub moved : Step → Counts → Counts
moved Done c = c
moved Skip c = record { root = c.root + 1; height = c.height; depth = c.depth; groups = c.groups; finished = c.finished }
moved (Enter w) c = record { root = c.root; height = c.height + 1; depth = c.depth + 1; groups = c.groups + 1; finished = c.finished }
moved Join c = record { root = c.root; height = c.height; depth = c.depth; groups = c.groups - 1; finished = c.finished }
moved (Pass v e) c = c
moved Leave c = record { root = c.root; height = c.height; depth = c.depth - 1; groups = c.groups; finished = c.finished }
moved (Close from) c =
    record { root = c.root; height = from; depth = c.depth - 1; groups = c.groups - 1; finished = c.finished + (c.height - from) }

-- the search goes on, but where it is done
abbrev pub after : Step → Counts → Option Counts
after Done c = None
after Skip c = Some (moved Skip c)
after (Enter w) c = Some (moved (Enter w) c)
after Join c = Some (moved Join c)
after (Pass v e) c = Some (moved (Pass v e) c)
after Leave c = Some (moved Leave c)
after (Close from) c = Some (moved (Close from) c)

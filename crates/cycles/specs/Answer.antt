-- What the answers on cycles, orders and components mean, and what is left in what was lent.
use Rattle.std.specs.Prelude.{◌≡◌, ◌⊎◌, List, ℕ, ◌+◌, ◌≤◌, ◌<◌, length, get_or, drop, replicate, Option, Some, None, Result, Ok, Err}
use Rattle.columns.specs.Column.{cleared_before}
use Rattle.graph.specs.Graph.{vertices, Graph, Arc, OnCycle}
use Rattle.cycles.specs.State.{State, cell, needed}
use Rattle.cycles.specs.Component.{Leads}
use Rattle.cycles.specs.declared.GraphError.{GraphError}
use Rattle.cycles.specs.declared.GraphError.TheVariants.{Malformed, ColumnShort, ScratchShort}

-- ---- the reply

-- v is the smallest vertex that lies on a cycle
pub record Least (first to : List ℕ) (v : ℕ) : Type 0 where
  pub low : v < vertices first
  pub on : OnCycle first to v
  pub before : (u : ℕ) → u < v → OnCycle first to u → ⊥

abbrev pub Acyclic : List ℕ → List ℕ → Type 0
Acyclic first to = (v : ℕ) → OnCycle first to v → ⊥

-- a reply and the number beside it
pub record Reply : Type 0 where
  pub number : ℕ
  pub value : ℕ

-- reply 13 is a cycle, with the smallest vertex on one; reply 0 is none
abbrev pub cycle_at : ℕ → Reply
cycle_at v = record { number = 13; value = v }

abbrev pub no_cycle : Reply
no_cycle = record { number = 0; value = 0 }

pub record Replies (first to : List ℕ) (r : Reply) : Type 0 where
  pub cycle : r.number ≡ 13 → Least first to r.value
  pub none : r.number ≡ 0 → Acyclic first to
  pub either : (r.number ≡ 0) ⊎ (r.number ≡ 13)

-- ---- what was lent: a column for the answer (the empty one, where a call has none), and scratch

pub record Lent : Type 0 where
  pub column : List ℕ
  pub scratch : List ℕ

abbrev pub lent : List ℕ → List ℕ → Lent
lent column scratch = record { column = column; scratch = scratch }

-- there was room for so many entries of the column, and scratch for all vertices; this is left with zeros in the part that is needed, and
-- what is behind either is as it was
pub record Used (first to : List ℕ) (entries : ℕ) (was is : Lent) : Type 0 where
  pub graph : Graph first to
  pub column_room : entries ≤ length was.column
  pub scratch_room : needed (vertices first) ≤ length was.scratch
  pub column_rest : drop entries is.column ≡ drop entries was.column
  pub scratch_is : is.scratch ≡ cleared_before 0 (needed (vertices first)) was.scratch

pub record NoGraph (first to : List ℕ) (was is : Lent) : Type 0 where
  pub no : Graph first to → ⊥
  pub kept : is ≡ was

-- the column has fewer entries than there are vertices
pub record ColumnLacks (first to : List ℕ) (k : ℕ) (was is : Lent) : Type 0 where
  pub graph : Graph first to
  pub needs : k ≡ vertices first
  pub short : length was.column < k
  pub kept : is ≡ was

-- scratch has fewer entries than are needed
pub record ScratchLacks (first to : List ℕ) (k : ℕ) (was is : Lent) : Type 0 where
  pub graph : Graph first to
  pub needs : k ≡ needed (vertices first)
  pub short : length was.scratch < k
  pub kept : is ≡ was

-- ---- the answers of `least_on_cycle`

pub record Replied (first to : List ℕ) (r : Reply) (was is : Lent) : Type 0 where
  pub used : Used first to 0 was is
  pub replies : Replies first to r

abbrev pub CycleAnswers : List ℕ → List ℕ → Lent → Lent → Result (Option ℕ) GraphError → Type 0
CycleAnswers first to was is (Ok (Some v)) = Replied first to (cycle_at v) was is
CycleAnswers first to was is (Ok None) = Replied first to no_cycle was is
CycleAnswers first to was is (Err Malformed) = NoGraph first to was is
CycleAnswers first to was is (Err (ColumnShort k)) = ⊥
CycleAnswers first to was is (Err (ScratchShort k)) = ScratchLacks first to k was is

-- ---- the answers of `topological_order`

-- the first n entries are the vertices, each once, and each stands after all that it has arcs to
pub record Ordered (first to order : List ℕ) : Type 0 where
  pub low : (k : ℕ) → k < vertices first → get_or order k 0 < vertices first
  pub all : (v : ℕ) → v < vertices first → (k : ℕ) × (k < vertices first) × (get_or order k 0 ≡ v)
  pub once : (j k : ℕ) → j < vertices first → k < vertices first → get_or order j 0 ≡ get_or order k 0 → j ≡ k
  pub after : (j k : ℕ) → j < vertices first → k < vertices first → Arc first to (get_or order j 0) (get_or order k 0) → k < j

pub record InOrder (first to : List ℕ) (r : Reply) (was is : Lent) : Type 0 where
  pub used : Used first to (vertices first) was is
  pub replies : Replies first to r
  pub ordered : Ordered first to is.column

-- where there is a cycle, the column is as it was
pub record NoOrder (first to : List ℕ) (r : Reply) (was is : Lent) : Type 0 where
  pub used : Used first to (vertices first) was is
  pub replies : Replies first to r
  pub kept : is.column ≡ was.column

abbrev pub OrderAnswers : List ℕ → List ℕ → Lent → Lent → Result (Option ℕ) GraphError → Type 0
OrderAnswers first to was is (Ok None) = InOrder first to no_cycle was is
OrderAnswers first to was is (Ok (Some v)) = NoOrder first to (cycle_at v) was is
OrderAnswers first to was is (Err Malformed) = NoGraph first to was is
OrderAnswers first to was is (Err (ColumnShort k)) = ColumnLacks first to k was is
OrderAnswers first to was is (Err (ScratchShort k)) = ScratchLacks first to k was is

-- ---- the answers of `components`

-- the group of each vertex: two vertices have the same exactly where each leads to the other; no arc leads to a group of a greater number
pub record Groups (first to group : List ℕ) : Type 0 where
  pub low : (v : ℕ) → v < vertices first → get_or group v 0 < vertices first
  pub same : (v w : ℕ) → v < vertices first → w < vertices first → get_or group v 0 ≡ get_or group w 0 → Leads (Arc first to) v w
  pub mutual_same : (v w : ℕ) → v < vertices first → w < vertices first → Leads (Arc first to) v w → Leads (Arc first to) w v → get_or group v 0 ≡ get_or group w 0
  pub falls : (v w : ℕ) → Arc first to v w → get_or group w 0 ≤ get_or group v 0

pub record InGroups (first to : List ℕ) (was is : Lent) : Type 0 where
  pub used : Used first to (vertices first) was is
  pub groups : Groups first to is.column

abbrev pub GroupAnswers : List ℕ → List ℕ → Lent → Lent → Result Unit GraphError → Type 0
GroupAnswers first to was is (Ok _) = InGroups first to was is
GroupAnswers first to was is (Err Malformed) = NoGraph first to was is
GroupAnswers first to was is (Err (ColumnShort k)) = ColumnLacks first to k was is
GroupAnswers first to was is (Err (ScratchShort k)) = ScratchLacks first to k was is

-- ---- what the inner functions give, on scratch as long as it is needed

-- a vertex that has an arc into its own group
pub record Inner (first to : List ℕ) (x : State) (v : ℕ) : Type 0 where
  pub place : ℕ
  pub from : get_or first v 0 ≤ place
  pub upto : place < get_or first (v + 1) 0
  pub same : x.group (get_or to place 0) ≡ x.group v

-- v is the smallest number below n with a property
pub record SmallestAt (P : ℕ → Type 0) (n v : ℕ) : Type 0 where
  pub low : v < n
  pub before : (k : ℕ) → k < v → P k → ⊥
  pub has : P v

-- the smallest number below n with a property, where one has it
abbrev pub Smallest : (ℕ → Type 0) → ℕ → Option ℕ → Type 0
Smallest P n (Some v) = SmallestAt P n v
Smallest P n None = (k : ℕ) → k < n → P k → ⊥

-- the smallest vertex on a cycle, where there is one
abbrev pub Found : List ℕ → List ℕ → Option ℕ → Type 0
Found first to (Some v) = Least first to v
Found first to None = Acyclic first to

-- where there is no cycle, an order; else the column is as it was
abbrev pub OrderIf : List ℕ → List ℕ → List ℕ → List ℕ → Option ℕ → Type 0
OrderIf first to order order' (Some v) = order' ≡ order
OrderIf first to order order' None = Ordered first to order'

-- zeros
abbrev pub Zeros : List ℕ → List ℕ → Type 0
Zeros s s' = s' ≡ replicate (length s) 0

pub record FoundIn (first to s s' : List ℕ) (r : Option ℕ) : Type 0 where
  pub found : Found first to r
  pub zeros : Zeros s s'

pub record OrderedIn (first to order s order' s' : List ℕ) (r : Option ℕ) : Type 0 where
  pub found : Found first to r
  pub ordered : OrderIf first to order order' r
  pub zeros : Zeros s s'

pub record GroupedIn (first to s group' s' : List ℕ) : Type 0 where
  pub groups : Groups first to group'
  pub zeros : Zeros s s'

-- each vertex has a place of its own, after those of all that it has arcs to
pub record Placed (first to : List ℕ) (x : State) : Type 0 where
  pub low : (v : ℕ) → v < vertices first → x.place v < vertices first
  pub once : (v w : ℕ) → v < vertices first → w < vertices first → x.place v ≡ x.place w → v ≡ w
  pub all : (k : ℕ) → k < vertices first → (v : ℕ) × (v < vertices first) × (x.place v ≡ k)
  pub after : (v w : ℕ) → Arc first to v w → x.place w < x.place v

-- the groups of the numbers below n, less 2
pub record Numbered (group s : List ℕ) (n : ℕ) : Type 0 where
  pub small : n ≤ 65536
  pub group_room : n ≤ length group
  pub scratch_room : needed n ≤ length s
  pub closed : (v : ℕ) → v < n → 2 ≤ cell s 0 v
  pub low : (v : ℕ) → v < n → cell s 0 v < n + 2

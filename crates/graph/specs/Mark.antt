-- What a vertex reaches, marked.
use Rattle.std.specs.Prelude.{◌≡◌, Bool, cond, not, ◌&&◌, List, ℕ, zero, suc, ◌+◌, ◌≤◌, ◌<◌, min, eqb, ltb, length, get_or, take, drop, Result, Ok, Err}
use Rattle.columns.specs.Column.{cleared_before}
use Rattle.relations.specs.Reach.{Reaches}
use Rattle.graph.specs.Graph.{vertices, Graph, Arc}
use Rattle.graph.specs.declared.MarkError.{MarkError}
use Rattle.graph.specs.declared.MarkError.TheVariants.{Malformed, Short}

-- ---- counting

unfoldable pub flag : ℕ → ℕ
flag zero = 0
flag (suc x) = 1

-- how many of the first n values are not 0
unfoldable pub nonzero : (ℕ → ℕ) → ℕ → ℕ
nonzero f zero = 0
nonzero f (suc n) = flag (f n) + nonzero f n

-- ---- the contract

-- a graph, one of its vertices, and room for as many marks and as long a queue as it has vertices
pub record Markable (first to : List ℕ) (from : ℕ) (mark queue : List ℕ) : Type 0 where
  pub graph : Graph first to
  pub source : from < vertices first
  pub mark_room : vertices first ≤ length mark
  pub queue_room : vertices first ≤ length queue

-- a vertex has mark 1 exactly if it is reached over one or more arcs; every other mark is 0
pub record Marks (first to : List ℕ) (from : ℕ) (mark : List ℕ) : Type 0 where
  pub sound : (v : ℕ) → get_or mark v 0 ≡ 1 → Reaches (Arc first to) from v
  pub complete : (v : ℕ) → Reaches (Arc first to) from v → get_or mark v 0 ≡ 1
  pub else_zero : (v : ℕ) → get_or mark v 0 ≤ 1

-- what was lent, and what it holds afterwards
pub record Lent : Type 0 where
  pub mark : List ℕ
  pub queue : List ℕ

-- done: the marks of the vertices stand in the first entries, zeros in as many entries of the queue; what is behind them is as it was
pub record MarkedAll (first to : List ℕ) (from : ℕ) (was is : Lent) : Type 0 where
  pub markable : Markable first to from was.mark was.queue
  pub marks : Marks first to from (take (vertices first) is.mark)
  pub mark_rest : drop (vertices first) is.mark ≡ drop (vertices first) was.mark
  pub queue_is : is.queue ≡ cleared_before 0 (vertices first) was.queue

-- no graph, or not one of its vertices
pub record Refused (first to : List ℕ) (from : ℕ) (was is : Lent) : Type 0 where
  pub no : Graph first to → from < vertices first → ⊥
  pub kept : is ≡ was

-- the marks or the queue have fewer entries than are needed: as many as there are vertices
pub record Lacking (first to : List ℕ) (from needed : ℕ) (was is : Lent) : Type 0 where
  pub graph : Graph first to
  pub source : from < vertices first
  pub short : min (length was.mark) (length was.queue) < needed
  pub needs : needed ≡ vertices first
  pub kept : is ≡ was

abbrev pub Answers : List ℕ → List ℕ → ℕ → Lent → Lent → Result Unit MarkError → Type 0
Answers first to from was is (Ok _) = MarkedAll first to from was is
Answers first to from was is (Err Malformed) = Refused first to from was is
Answers first to from was is (Err (Short needed)) = Lacking first to from needed was is

abbrev pub lent : List ℕ → List ℕ → Lent
lent mark queue = record { mark = mark; queue = queue }

-- ---- the search that marks with a stamp

-- a mark that is the stamp counts 1
abbrev pub stamped_at : ℕ → List ℕ → ℕ → ℕ
stamped_at stamp mark v = cond (eqb (get_or mark v 0) stamp) 1 0

-- how many of the first n marks are the stamp
abbrev pub stamped : ℕ → List ℕ → ℕ → ℕ
stamped stamp mark n = nonzero (stamped_at stamp mark) n

-- an index among the marks whose mark is not the stamp
abbrev pub unstamped : ℕ → List ℕ → ℕ → Bool
unstamped stamp mark v = ltb v (length mark) && not (eqb (get_or mark v 0) stamp)

-- a stamp that no vertex has as its mark yet
pub record Searchable (first to : List ℕ) (from stamp : ℕ) (mark queue : List ℕ) : Type 0 where
  pub markable : Markable first to from mark queue
  pub fresh : (v : ℕ) → v < vertices first → get_or mark v 0 ≡ stamp → ⊥

-- afterwards a vertex has the stamp exactly if it is reached over one or more arcs, and every other mark is as it was
pub record Stamps (first to : List ℕ) (from stamp : ℕ) (mark mark' : List ℕ) : Type 0 where
  pub sound : (v : ℕ) → v < vertices first → get_or mark' v 0 ≡ stamp → Reaches (Arc first to) from v
  pub complete : (v : ℕ) → Reaches (Arc first to) from v → get_or mark' v 0 ≡ stamp
  pub others : (v : ℕ) → (get_or mark' v 0 ≡ stamp → ⊥) → get_or mark' v 0 ≡ get_or mark v 0
  pub behind : (v : ℕ) → vertices first ≤ v → get_or mark' v 0 ≡ get_or mark v 0

-- the first entries of the queue, so many, are the vertices that are reached, each once
pub record Lists (first to : List ℕ) (from : ℕ) (queue : List ℕ) (n : ℕ) : Type 0 where
  pub sound : (k : ℕ) → k < n → Reaches (Arc first to) from (get_or queue k 0)
  pub complete : (v : ℕ) → Reaches (Arc first to) from v → (k : ℕ) × (k < n) × (get_or queue k 0 ≡ v)
  pub once : (j k : ℕ) → j < k → k < n → get_or queue j 0 ≡ get_or queue k 0 → ⊥

-- THE SEARCH: whatever the columns hold, it ends
pub record Searches (first to : List ℕ) (from stamp : ℕ) (mark queue mark' queue' : List ℕ) (n : ℕ) : Type 0 where
  pub stamps : Searchable first to from stamp mark queue → Stamps first to from stamp mark mark'
  pub lists : Searchable first to from stamp mark queue → Lists first to from queue' n

-- ---- between its steps

-- the vertices that got the stamp are those in the queue, and each is reached
pub record Spread (first to : List ℕ) (from stamp : ℕ) (mark₀ mark queue : List ℕ) (tail : ℕ) : Type 0 where
  pub markable : Markable first to from mark queue
  pub counted : stamped stamp mark (vertices first) ≡ tail
  pub others : (v : ℕ) → (get_or mark v 0 ≡ stamp → ⊥) → get_or mark v 0 ≡ get_or mark₀ v 0
  pub behind : (v : ℕ) → vertices first ≤ v → get_or mark v 0 ≡ get_or mark₀ v 0
  pub low : (k : ℕ) → k < tail → get_or queue k 0 < vertices first
  pub reached : (k : ℕ) → k < tail → Reaches (Arc first to) from (get_or queue k 0)
  pub marked : (k : ℕ) → k < tail → get_or mark (get_or queue k 0) 0 ≡ stamp
  pub queued : (v : ℕ) → v < vertices first → get_or mark v 0 ≡ stamp → (k : ℕ) × (k < tail) × (get_or queue k 0 ≡ v)
  pub once : (j k : ℕ) → j < k → k < tail → get_or queue j 0 ≡ get_or queue k 0 → ⊥

-- what follows u has the stamp too
pub record Expanded (first to : List ℕ) (from stamp u : ℕ) (mark₀ mark queue : List ℕ) (tail : ℕ) (mark' queue' : List ℕ) (tail' : ℕ) : Type 0 where
  pub spread : Spread first to from stamp mark₀ mark' queue' tail'
  pub grown : tail ≤ tail'
  pub kept : (k : ℕ) → k < tail → get_or queue' k 0 ≡ get_or queue k 0
  pub marks : (v : ℕ) → get_or mark v 0 ≡ stamp → get_or mark' v 0 ≡ stamp
  pub all : (w : ℕ) → Arc first to u w → get_or mark' w 0 ≡ stamp

-- a vertex all of whose targets are reached
pub record Source (first to : List ℕ) (from u : ℕ) : Type 0 where
  pub vertex : u < vertices first
  pub leads : (w : ℕ) → Arc first to u w → Reaches (Arc first to) from w

-- each that is put into the queue has the stamp, whatever the columns hold, and so the search ends
pub record Expands (first to : List ℕ) (u stamp : ℕ) (mark queue : List ℕ) (tail : ℕ) (mark' queue' : List ℕ) (tail' : ℕ) : Type 0 where
  pub ends : tail' ≤ stamped stamp mark' (length mark')
  pub is : (from : ℕ) (mark₀ : List ℕ) → Spread first to from stamp mark₀ mark queue tail → Source first to from u
      → Expanded first to from stamp u mark₀ mark queue tail mark' queue' tail'

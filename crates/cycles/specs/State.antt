-- What the search keeps in scratch: six numbers for each index.
use Rattle.std.specs.Prelude.{List, ℕ, ◌+◌, ◌*◌, set}
pub use Rattle.group_rows.specs.Rows.{cell}

-- Of a vertex: its group (0: it is new, 1: it is open, 2 and more: it is closed), its place (of an open vertex in the stack, of a closed one
-- among the closed), and its next arc. By index: the open vertices, in the order in which they were entered (the stack); the places of those
-- that are on the path of the depth-first search; and the indices into the path at which a group of open vertices starts.
pub record State : Type 0 where
  pub group : ℕ → ℕ
  pub place : ℕ → ℕ
  pub next_arc : ℕ → ℕ
  pub stack : ℕ → ℕ
  pub path : ℕ → ℕ
  pub bound : ℕ → ℕ

-- scratch with that number stored
abbrev pub store : List ℕ → ℕ → ℕ → ℕ → List ℕ
store s k i a = set s (6 * i + k) a

abbrev pub state : List ℕ → State
state s = record { group = cell s 0; place = cell s 1; next_arc = cell s 2; stack = cell s 3; path = cell s 4; bound = cell s 5 }

-- entries that so many vertices need
abbrev pub needed : ℕ → ℕ
needed n = 6 * n

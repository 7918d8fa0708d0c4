-- Tables by symbol: what each symbol means among some nodes.
use Rattle.std.specs.Prelude.{◌≡◌, Bool, ◌||◌, List, ◌++◌, ℕ, ◌-◌, ◌≤◌, ◌<◌, min, eqb, length, get_or, set}
use Rattle.relations.specs.Select.{span, keep}
use Rattle.express.specs.Names.Scope.{meaning}
use Rattle.symbol_tables.specs.Entry.{code, stamp_count, node_limit, stamp_of, entry_with, says}

-- THE TABLE of some nodes: of each symbol it says what this means among those that have it (N11)
pub record Tabulated (symbol : ℕ → ℕ) (table : List ℕ) (stamp : ℕ) (ns : List ℕ) : Type 0 where
  pub is : (s : ℕ) → s < length table → says table stamp s ≡ code (meaning (keep (λ n. eqb (symbol n) s) ns))

-- entries of other stamps are as they were
pub record OnlyStamped (stamp : ℕ) (table table' : List ℕ) : Type 0 where
  pub others : (s : ℕ) → (stamp_of (get_or table' s 0) ≡ stamp → ⊥) → get_or table' s 0 ≡ get_or table s 0

-- one node more under its symbol
pub record Adds (table : List ℕ) (stamp symbol node : ℕ) (table' : List ℕ) : Type 0 where
  pub is : stamp < stamp_count → node < node_limit → table' ≡ set table symbol (entry_with stamp (get_or table symbol 0) node)

-- ---- the nodes of a range, by columns

abbrev pub either_kind : ℕ → ℕ → ℕ → Bool
either_kind one other kind = eqb kind one || eqb kind other

abbrev pub symbol_in : List ℕ → List ℕ → ℕ → ℕ
symbol_in tokens symbols n = get_or symbols (get_or tokens n 0) 0

-- those from lo up to hi that are of one of two kinds
unfoldable pub kinds_between : List ℕ → ℕ → ℕ → ℕ → ℕ → List ℕ
kinds_between kinds one other lo hi = keep (λ n. either_kind one other (get_or kinds n 0)) (span lo (hi - lo))

-- nodes up to hi, as far as each has a kind and a token
abbrev pub reach : List ℕ → List ℕ → ℕ → ℕ
reach kinds tokens hi = min hi (min (length kinds) (length tokens))

-- they stand before those that the table has
pub record AddsRange (kinds tokens symbols : List ℕ) (one other lo hi stamp : ℕ) (table table' : List ℕ) : Type 0 where
  pub only : stamp < stamp_count → hi ≤ node_limit → OnlyStamped stamp table table'
  pub is : stamp < stamp_count → hi ≤ node_limit → (ns : List ℕ) → Tabulated (symbol_in tokens symbols) table stamp ns
      → Tabulated (symbol_in tokens symbols) table' stamp (kinds_between kinds one other lo (reach kinds tokens hi) ++ ns)

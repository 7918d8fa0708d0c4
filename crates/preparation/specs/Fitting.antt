-- Columns of nodes and tokens that surely fit each other.
use Rattle.std.specs.Prelude.{ℕ, ◌≤◌, ◌<◌, List, length, get_or}
use Rattle.scopes.specs.Entries.{radix}

-- none of the first n numbers of a column is above a number
pub record AtMost (column : List ℕ) (n most : ℕ) : Type 0 where
  pub is : (i : ℕ) → i < n → get_or column i 0 ≤ most

-- each number of the one column is a place in the other, and each number there is small
pub record Fitting (tokens symbols : List ℕ) : Type 0 where
  pub inside : (n : ℕ) → n < length tokens → get_or tokens n 0 < length symbols
  pub small : (k : ℕ) → k < length symbols → get_or symbols k 0 < radix

-- What the functions that count entries go by.
use Rattle.std.specs.Prelude.{List, ℕ}
use Rattle.scopes.specs.Standing.{table_of, Counted}
use Rattle.scopes.specs.declared.Counts.{Counts}

-- how many entries of each part there are before a node, whatever the tokens are
pub record CountedTo (kinds roles : List ℕ) (n : ℕ) (c : Counts) : Type 0 where
  pub is : (tokens symbols : List ℕ) → Counted (table_of kinds tokens roles symbols) n c

-- The answer table as records, and what a lent slice of records holds of it.
use Rattle.std.specs.Prelude.{List, [], ◌∷◌, ℕ, ℤ, pos, take}
use Rattle.columns.specs.Column.{padded}
use Rattle.records.specs.declared.Answer.{Answer}
use Rattle.records.specs.declared.Rows.{Rows}

abbrev pub zeros : Answer
zeros = record { kind = 0; number = pos 0; length = 0 }

-- the rows of a table lent as three columns; the shortest of these says how many
unfoldable pub rows : List ℕ → List ℤ → List ℕ → List Answer
rows [] ns ls = []
rows (k ∷ ks) [] ls = []
rows (k ∷ ks) (n ∷ ns) [] = []
rows (k ∷ ks) (n ∷ ns) (l ∷ ls) = record { kind = k; number = n; length = l } ∷ rows ks ns ls

-- the rows that count
abbrev pub answers : Rows → List Answer
answers r = take r.count (rows r.kinds.now r.numbers.now r.lengths.now)

-- a slice of n records: the first rows of the table, as many as `count` says and as fit, and zeros behind them
abbrev pub filled : List ℕ → List ℤ → List ℕ → ℕ → ℕ → List Answer
filled ks ns ls count n = padded zeros n (take n (take count (rows ks ns ls)))

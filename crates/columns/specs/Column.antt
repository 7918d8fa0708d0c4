-- Columns: what stores and clearing leave in them (R7).
use Rattle.std.specs.Prelude.{ℕ, zero, suc, ◌+◌, ◌-◌, List, [], ◌∷◌, ◌++◌, length, replicate, take, drop}

-- a column with zeros from an index on
abbrev pub cleared : {A : Type 0} → A → ℕ → List A → List A
cleared z n c = take n c ++ replicate (length c - n) z

-- a column with zeros before an index, and what was there from the index on
abbrev pub cleared_before : {A : Type 0} → A → ℕ → List A → List A
cleared_before z n c = replicate n z ++ drop n c

-- values, and zeros behind them up to n entries
abbrev pub padded : {A : Type 0} → A → ℕ → List A → List A
padded z n vs = vs ++ replicate (n - length vs) z

-- what f gives for n numbers from p on: the rule of a constant table
unfoldable pub tabulated : (ℕ → ℕ) → ℕ → ℕ → List ℕ
tabulated f p zero = []
tabulated f p (suc n) = f p ∷ tabulated f (p + 1) n

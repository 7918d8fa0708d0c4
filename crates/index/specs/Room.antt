-- When the work is done, and when a lent column is too short for it.
use Rattle.std.specs.Prelude.{Bool, true, false, ◌&&◌, not, ℕ, eqb, leb, ltb, Result, Ok, Err}
use Rattle.index.specs.declared.Short.{Short}

abbrev pub done : Result (Unit {0}) Short → Bool
done (Ok _) = true
done (Err _) = false

-- room for chains of so many entries: a bucket or more, a link for each entry, and links that 32 bits hold
abbrev pub fits : ℕ → ℕ → ℕ → Bool
fits count heads next = not (eqb heads 0) && (leb count next && ltb count 4294967295)

-- room for so many symbols: a length and a symbol for each token beside its start, and chains
abbrev pub enough : ℕ → ℕ → ℕ → ℕ → ℕ → Bool
enough starts lengths symbols heads next = leb starts lengths && (leb starts symbols && fits starts heads next)

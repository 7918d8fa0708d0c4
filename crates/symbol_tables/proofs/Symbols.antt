-- The symbol of a node is less than the number of symbols, since no symbol is above the number of its token; so a table as long has an entry for it.
use mathlib.Core.Path.{ap}
use mathlib.Core.List.{List, map}
use Prim.Native.Nat.{ℕ, zero, suc, ◌+◌, ◌≤◌, ◌<◌}
use native.Mathlib.Omega.{arith}
use lib.ListN.{length, get_or}
use Rattle.relations.specs.Select.{span}
use Rattle.express.specs.Syntax.Tree.{Table, count, token, symbol}
use Rattle.express.specs.Tokens.Scanned.{Scanned}
use Rattle.express.specs.Tokens.Spelling.{symbol_of, symbols_of}
use Rattle.express.proofs.Tokens.Spelling.{symbol_le}
use Rattle.scopes.specs.Preparation.{Consistent}

-- numbers of which none is above its index, from i on
low_numbers : (f : ℕ → ℕ) → ((k : ℕ) → f k ≤ k) → (i d j : ℕ) → j < length (map f (span i d)) → get_or (map f (span i d)) j 0 < i + length (map f (span i d))
unfolding span
low_numbers f h i zero j l = absurd (omega arith)
low_numbers f h i (suc d) zero l = omega (arith, h i)
low_numbers f h i (suc d) (suc j) l = omega (arith, low_numbers f h (suc i) d j (omega arith))

low_symbols : (src starts lengths terminals : List ℕ) (j : ℕ) → j < length (symbols_of src starts lengths terminals)
    → get_or (symbols_of src starts lengths terminals) j 0 < length (symbols_of src starts lengths terminals)
unfolding symbols_of
low_symbols src starts lengths terminals j l =
    omega (arith, low_numbers (symbol_of src starts lengths terminals) (symbol_le src starts lengths terminals) 0 (length starts) j l)

pub symbol_within : {t : Table} → Scanned t → Consistent t → (n : ℕ) → n < count t → symbol t n < length t.symbols
symbol_within {t} S C n l =
    let e = S.symbols_are in
    let k : token t n < length (symbols_of t.bytes t.starts t.lengths t.terminals) = omega (arith, C.inside n l, ap length e) in
    omega (arith, low_symbols t.bytes t.starts t.lengths t.terminals (token t n) k, ap length e, ap (λ (x : List ℕ). get_or x (token t n) 0) e)

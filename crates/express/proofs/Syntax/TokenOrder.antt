-- Each token of a text starts after the one before it.
use mathlib.Core.Path.{◌≡◌, ap, ◌∙◌}
use mathlib.Core.List.{List, map}
use Prim.Native.Nat.{ℕ, ◌≤◌, ◌<◌}
use native.Mathlib.Omega.{arith}
use lib.ListN.{length, get_or, length-map, get_or-map}
use Rattle.express.specs.Tokens.Lexis.{TokenRow, lexed}
use Rattle.express.specs.Syntax.Tree.{Table, nodes}
use Rattle.express.specs.Syntax.Grammar.{file}
use Rattle.express.specs.Syntax.Syntax.{Read}
use Rattle.express.specs.Names.Fault.{Fault}
use Rattle.express.specs.Names.Names.{stages, names, StageFault}
use Rattle.express.specs.Tokens.Scanned.{Scanned}
use Rattle.express.proofs.Tokens.TokenRows.{no_row, row_at, tokens_of}
use Rattle.express.proofs.Names.Untied.{Rising, fault_once}

-- the starts of some rows: from p on, each after the one before it
pub record Rises (p : ℕ) (rs : List TokenRow) : Type 0 where
  pub from : (i : ℕ) → i < length rs → p ≤ get_or (map (λ (r : TokenRow). r.start) rs) i 0
  pub rise : (i j : ℕ) → i < j → j < length rs → get_or (map (λ (r : TokenRow). r.start) rs) i 0 < get_or (map (λ (r : TokenRow). r.start) rs) j 0

module _ (s : List ℕ) where
  start_at : (i : ℕ) → get_or (map (λ (r : TokenRow). r.start) (lexed s).rows) i 0 ≡ (row_at (lexed s).rows i).start
  start_at i = get_or-map (λ (r : TokenRow). r.start) (lexed s).rows i no_row

  pub starts_rise : Rises 0 (lexed s).rows
  starts_rise = record { from = λ i l. omega arith; rise = up }
    where
      up : (i j : ℕ) → i < j → j < length (lexed s).rows → get_or (map (λ (r : TokenRow). r.start) (lexed s).rows) i 0 < get_or (map (λ (r : TokenRow). r.start) (lexed s).rows) j 0
      up i j k l = rw (start_at i, start_at j) (omega (arith, (tokens_of s).rise i j k l, ((tokens_of s).token i (omega (arith, k, l))).some))

-- so in a table whose token columns are those of its bytes
module _ (t : Table) (scanned : Scanned t) where
  pub scanned_rising : Rising t
  scanned_rising i j l m =
      let e = ap length scanned.terminals_are ∙ length-map (lexed t.bytes).rows _ in
      rw scanned.starts_are ((starts_rise t.bytes).rise i j l (omega arith))

  -- THE FAULT of a file is one: no two faults of a stage tie
  pub file_fault : Read file t → (f : Fault) → StageFault (nodes t) f (stages t) → f ≡ names t
  file_fault d f r = fault_once d scanned_rising f r

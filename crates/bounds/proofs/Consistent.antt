-- The columns of a file that is scanned and read fit each other, so that its dictionary can be made.
use mathlib.Core.Path.{◌≡◌, refl, sym, ap, ◌∙◌}
use mathlib.Core.List.{List}
use Prim.Native.Nat.{ℕ, zero, suc, ◌≤◌, ◌<◌}
use native.Mathlib.Omega.{arith}
use lib.ListN.{length, get_or, length-map}
use Rattle.ebnf.specs.Rows.{Row}
use Rattle.relations.specs.Select.{span}
use Rattle.express.specs.Syntax.Tree.{Table, count, token, symbol}
use Rattle.express.specs.Syntax.Grammar.{file}
use Rattle.express.specs.Syntax.Syntax.{Read}
use Rattle.express.specs.Tokens.Lexis.{TokenRow, lexed}
use Rattle.express.specs.Tokens.Scanned.{Scanned, row_bytes}
use Rattle.express.specs.Tokens.Spelling.{symbol_of, symbols_of}
use Rattle.express.specs.Tokens.Terminal.{terminal_of}
use Rattle.express.proofs.Syntax.Within.{token_inside}
use Rattle.express.proofs.Tokens.Spelling.{symbol_le, symbols_at}
use Rattle.scopes.specs.Entries.{radix}
use Rattle.scopes.specs.Preparation.{Consistent}
use Rattle.bounds.proofs.Bounds.{nodes_few}

length_span : (i d : ℕ) → length (span i d) ≡ d
unfolding span
length_span i zero = refl
length_span i (suc d) = ap suc (length_span (suc i) d)

as_many : (src starts lengths terminals : List ℕ) → length (symbols_of src starts lengths terminals) ≡ length starts
unfolding symbols_of
as_many src starts lengths terminals = length-map (span 0 (length starts)) (symbol_of src starts lengths terminals) ∙ length_span 0 (length starts)

module _ {t : Table} (R : Read file t) (S : Scanned t) where
  rows : List TokenRow
  rows = (lexed t.bytes).rows

  -- a start and a symbol for each terminal
  pub starts_long : length t.starts ≡ length t.terminals
  starts_long =
      ap length S.starts_are ∙ length-map (lexed t.bytes).rows (λ (r : TokenRow). r.start)
      ∙ sym (ap length S.terminals_are ∙ length-map (lexed t.bytes).rows (λ r. terminal_of r.kind (row_bytes t.bytes r)))

  pub symbols_long : length t.symbols ≡ length t.terminals
  symbols_long = ap length S.symbols_are ∙ as_many t.bytes t.starts t.lengths t.terminals ∙ starts_long

  symbol_below : (n : ℕ) → n < count t → symbol t n ≤ token t n
  symbol_below n l =
      let k : token t n < length t.starts = omega (arith, token_inside R n l, starts_long) in
      let e : symbol t n ≡ symbol_of t.bytes t.starts t.lengths t.terminals (token t n) =
      ap (λ (x : List ℕ). get_or x (token t n) 0) S.symbols_are ∙ symbols_at t.bytes t.starts t.lengths t.terminals (token t n) k in
      omega (arith, e, symbol_le t.bytes t.starts t.lengths t.terminals (token t n))

  nodes_are : count t ≡ length R.rows
  nodes_are = ap length R.kinds ∙ length-map R.rows (λ (r : Row). r.kind)

  pub consistent_file : length t.terminals < radix → Consistent t
  consistent_file few = record {
    few = omega (arith, nodes_few R, few);
    tokens = omega (arith, nodes_are, ap length R.tokens, length-map R.rows (λ (r : Row). r.token));
    roles = omega (arith, nodes_are, ap length R.roles, length-map R.rows (λ (r : Row). r.role));
    inside = λ n l. omega (arith, token_inside R n l, symbols_long);
    small = λ n l. omega (arith, symbol_below n l, token_inside R n l, few);
  }

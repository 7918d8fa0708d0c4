-- The token columns of a text: places and lengths (T18), terminals (T20), and which identifiers are spelled alike (T3).
use Rattle.std.specs.Prelude.{◌≡◌, List, [], map, ℕ}
use Rattle.express.specs.Tokens.Bytes.{token_bytes}
use Rattle.express.specs.Tokens.Lexis.{TokenRow, Lexed, starts, sizes, lexed}
use Rattle.express.specs.Tokens.Terminal.{terminal_of}
use Rattle.express.specs.Tokens.Spelling.{symbols_of}
use Rattle.express.specs.Syntax.Tree.{Table}

-- the bytes of a row
abbrev pub row_bytes : List ℕ → TokenRow → List ℕ
row_bytes s r = token_bytes s r.start r.size

abbrev pub row_terminals : List ℕ → Lexed → List ℕ
row_terminals s l = map (λ r. terminal_of r.kind (row_bytes s r)) l.rows

-- the table of a text with these tokens, without nodes
abbrev pub with_tokens : List ℕ → Lexed → Table
with_tokens s l =
    record {
      bytes = s;
      starts = starts l;
      lengths = sizes l;
      terminals = row_terminals s l;
      symbols = symbols_of s (starts l) (sizes l) (row_terminals s l);
      kinds = [];
      tokens = [];
      sizes = [];
      roles = [];
    }

abbrev pub token_table : List ℕ → Table
token_table s = with_tokens s (lexed s)

-- The token columns of a table are those of its bytes.
pub record Scanned (t : Table) : Type 0 where
  pub starts_are : t.starts ≡ starts (lexed t.bytes)
  pub lengths_are : t.lengths ≡ sizes (lexed t.bytes)
  pub terminals_are : t.terminals ≡ row_terminals t.bytes (lexed t.bytes)
  pub symbols_are : t.symbols ≡ symbols_of t.bytes t.starts t.lengths t.terminals

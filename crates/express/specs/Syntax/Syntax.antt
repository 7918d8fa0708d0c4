-- What the grammar says of a list of terminals: the rows of its nodes, the first token that cannot stand (G27), or the one that nests too deep (G28).
-- The start symbol is `file` for a whole file, and `expression` for one expression by itself.
use Rattle.std.specs.Prelude.{List, ◌++◌, map, ◌≡◌, ℕ}
use Rattle.ebnf.specs.Grammar.{Text}
use Rattle.ebnf.specs.Rows.{Row, Rows, in_rows}
use Rattle.ebnf.specs.Depth.{Outcome, outcome, Says}
use Rattle.express.specs.Tokens.Terminal.{lbrace, rbrace, lparen, rparen}
use Rattle.express.specs.Syntax.Tree.{Table}
use Rattle.express.specs.Syntax.Grammar.{Nonterminal, rules}
use Rattle.express.specs.Syntax.Lookahead.{tables}

-- the rows of a whole text
abbrev pub whole : List Row → Rows
whole s = record { name = 0; rows = s }

-- G1, G30: the tokens are a text of x, and its nodes have these rows.
abbrev pub Parses : Nonterminal → List ℕ → List Row → Type 0
Parses x ts s = Text in_rows rules x ts (whole s)

-- G28: parentheses and braces are counted together
abbrev pub opening : List ℕ
opening = lparen ++ lbrace

abbrev pub closing : List ℕ
closing = rparen ++ rbrace

-- G28: how many may be open at once
abbrev pub nesting : ℕ
nesting = 64

-- What an outcome says of the tokens: they are a text; or 4 at the first token that cannot stand (G27); or 5 at the first that nests too deep
-- (G28), where 4 goes first at the same token (G29).
abbrev pub Holds : Nonterminal → List ℕ → Outcome Rows → Type 0
Holds x ts o = Says in_rows rules x opening closing nesting ts o

-- the outcome, computed: it holds, and no other does (`parsed_iff` of proofs/syntax/Syntax)
unfoldable pub parsed : Nonterminal → List ℕ → Outcome Rows
parsed x ts = outcome in_rows rules tables x opening closing nesting ts

-- The node columns of a table are the rows of its terminals as a text of x.
pub record Read (x : Nonterminal) (t : Table) : Type 0 where
  pub rows : List Row
  pub parses : Parses x t.terminals rows
  pub kinds : t.kinds ≡ map (λ (r : Row). r.kind) rows
  pub tokens : t.tokens ≡ map (λ (r : Row). r.token) rows
  pub sizes : t.sizes ≡ map (λ (r : Row). r.size) rows
  pub roles : t.roles ≡ map (λ (r : Row). r.role) rows

-- a table with the rows of nodes
abbrev pub with_rows : Table → List Row → Table
with_rows t rs =
    record {
      bytes = t.bytes;
      starts = t.starts;
      lengths = t.lengths;
      terminals = t.terminals;
      symbols = t.symbols;
      kinds = map (λ (r : Row). r.kind) rs;
      tokens = map (λ (r : Row). r.token) rs;
      sizes = map (λ (r : Row). r.size) rs;
      roles = map (λ (r : Row). r.role) rs;
    }

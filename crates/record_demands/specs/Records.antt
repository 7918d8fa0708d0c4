-- R11: tables of which the answers are lent as records. What is demanded of them is `Checks`, on the columns of the records.
use Rattle.std.specs.Prelude.{List, map, ℕ, ◌≤◌, length, take}
use Rattle.express.specs.Tokens.Lexis.{lexed}
use Rattle.express.specs.Whole.Reply.{Report, Tables}
use Rattle.demands.specs.Checks.{tables_of, Checks}
use Rattle.records.specs.declared.Answer.{Answer}

-- seven columns, the kinds, numbers and lengths of the records, and the room
abbrev pub record_tables : List ℕ → List ℕ → List ℕ → List ℕ → List ℕ → List ℕ → List ℕ → List Answer → List ℕ → Tables
record_tables token_kinds token_starts token_lengths node_kinds node_tokens node_sizes node_bindings rs room =
    tables_of token_kinds token_starts token_lengths node_kinds node_tokens node_sizes node_bindings
    (map (λ (r : Answer). r.kind) rs) (map (λ (r : Answer). r.number) rs) (map (λ (r : Answer). r.length) rs) room

-- tables with the first rows of the answer columns alone
abbrev pub cut : ℕ → Tables → Tables
cut rows l =
    tables_of l.token_kinds l.token_starts l.token_lengths l.node_kinds l.node_tokens l.node_sizes l.node_bindings
    (take rows l.answer_kinds) (take rows l.answer_numbers) (take rows l.answer_lengths) l.room

-- the public call, lent these alone
pub record ChecksRows (s : List ℕ) (l m : Tables) (rows : ℕ) (r : Report) : Type 0 where
  pub checks : Checks s (cut rows l) (cut rows m) r

-- the call with records, of files of at most so many tokens
pub record RecordsWithin (tokens_most : ℕ) (s : List ℕ) (l m : Tables) (r : Report) : Type 0 where
  pub is : length (lexed s).rows ≤ tokens_most → Checks s l m r

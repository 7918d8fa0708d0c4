-- THE WHOLE (R1 to R9): what is answered for the bytes of a file, tables of three lengths and a room for strings, stage by stage (R3), and what every
-- column and the room then hold.
use Rattle.std.specs.Prelude.{cond, List, [], ◌∷◌, map, ℕ, min, eqb, leb, ℤ, pos, length, get_or, replicate}
use Rattle.columns.specs.Column.{padded}
use Rattle.ebnf.specs.Rows.{Rows}
use Rattle.ebnf.specs.Depth.{Outcome, good, unexpected, too_deep}
use Rattle.express.specs.Semantics.Answer.{Answer}
use Rattle.express.specs.Tokens.Lexis.{TokenRow, Lexed, Reading, at, starts, tokens, lexed}
use Rattle.express.specs.Tokens.Lexis as lexis
use Rattle.express.specs.Tokens.Scanned.{with_tokens}
use Rattle.express.specs.Syntax.Grammar.{file}
use Rattle.express.specs.Syntax.Syntax.{parsed, with_rows}
use Rattle.express.specs.Syntax.Tree.{Table, count, place}
use Rattle.express.specs.Names.Scope.{bindings}
use Rattle.express.specs.Names.Fault.{Fault}
use Rattle.express.specs.Names.Names.{names}
use Rattle.express.specs.Semantics.Kind.{Typing, typed, typing, constants}
use Rattle.express.specs.Semantics.Kind as kinds
use Rattle.express.specs.Semantics.Order.{constant_order}
use Rattle.express.specs.Semantics.Evaluate.{answers, answer_at}
use Rattle.express.specs.Semantics.AnswerRow.{AnswerRow, rows_from, room_of}

-- What an accepted file leaves: its tokens, its nodes, what each name is bound to, and an answer for each constant, in the order of the text.
pub record Accepted : Type 0 where
  pub tokens : List TokenRow
  pub table : Table
  pub bindings : List ℕ
  pub answers : List Answer

-- accepted, or refused by a number and with a number beside it (R2)
pub data Checked : Type 0 where
  accepted : Accepted → Checked
  refused : ℕ → ℕ → Checked

-- ---- the stages, the last first (R3): a later one begins where the earlier ones found nothing. A place is a start byte (R2).

module _ (ls : List TokenRow) (t : Table) (room : ℕ) where
  -- 20, last, with the bytes of the room that is lent
  abbrev pub after_answers : List Answer → Checked
  after_answers xs =
      let on = accepted (record { tokens = ls; table = t; bindings = bindings t; answers = xs }) in
      cond (leb (length (room_of xs)) room) on (refused 20 room)

  abbrev pub after_kinds : Typing → Checked
  after_kinds (typed ks) = after_answers (map (answer_at (answers t (bindings t) (constant_order t))) (constants t))
  after_kinds (kinds.ill_typed f n) = refused f (place t n)

  abbrev pub after_names : Fault → Checked
  after_names f = let on = after_kinds (typing t (bindings t)) in cond (eqb f.number 0) on (refused f.number f.place)

  -- 7 and 8 with the number of entries that are wanted
  abbrev pub after_rows : ℕ → ℕ → Checked
  after_rows nodes rows =
      let on = after_names (names t) in
      cond (leb (count t) nodes) (cond (leb (length (constants t)) rows) on (refused 8 (length (constants t)))) (refused 7 (count t))

-- s is the text, and l its tokens
module _ (s : List ℕ) (l : Lexed) (nodes rows room : ℕ) where
  -- 4 and 5 at the start of a token, or at the end of the bytes (G27, G28)
  abbrev pub after_syntax : Outcome Rows → Checked
  after_syntax (good r) = after_rows l.rows (with_rows (with_tokens s l) r.rows) room nodes rows
  after_syntax (unexpected j) = refused 4 (get_or (starts l) j (length s))
  after_syntax (too_deep k) = refused 5 (get_or (starts l) k (length s))

  abbrev pub after_tokens : Reading → Checked
  after_tokens (at n) = after_syntax (parsed file (with_tokens s l).terminals)
  after_tokens (lexis.refused k p) = refused k p

abbrev pub checked_with : List ℕ → Lexed → ℕ → ℕ → ℕ → ℕ → Checked
checked_with s l token_rows node_rows answer_rows room_bytes = after_tokens s l node_rows answer_rows room_bytes (tokens l token_rows)

-- R3: the outcome for the bytes of a file, a token, a node and an answer table of so many entries, and a room of so many bytes
unfoldable pub checked : List ℕ → ℕ → ℕ → ℕ → ℕ → Checked
checked s token_rows node_rows answer_rows room_bytes = checked_with s (lexed s) token_rows node_rows answer_rows room_bytes

-- ---- the report and the columns

-- the report, with counts of 0 after a refusal (R6)
pub record Report : Type 0 where
  pub reply : ℕ
  pub number : ℕ
  pub tokens : ℕ
  pub nodes : ℕ
  pub constants : ℕ

abbrev pub report : Checked → Report
report (accepted a) = record { reply = 0; number = 0; tokens = length a.tokens; nodes = count a.table; constants = length a.answers }
report (refused k p) = record { reply = k; number = p; tokens = 0; nodes = 0; constants = 0 }

-- a column of n entries (R7)
abbrev pub column : {A : Type 0} → A → (Accepted → List A) → Checked → ℕ → List A
column z values (accepted a) n = padded z n (values a)
column z values (refused k p) n = replicate n z

-- the token table (T18)
abbrev pub token_kinds : Accepted → List ℕ
token_kinds a = map (λ (r : TokenRow). r.kind) a.tokens

abbrev pub token_starts : Accepted → List ℕ
token_starts a = a.table.starts

abbrev pub token_lengths : Accepted → List ℕ
token_lengths a = a.table.lengths

-- the node table (G31)
abbrev pub node_kinds : Accepted → List ℕ
node_kinds a = a.table.kinds

abbrev pub node_tokens : Accepted → List ℕ
node_tokens a = a.table.tokens

abbrev pub node_sizes : Accepted → List ℕ
node_sizes a = a.table.sizes

abbrev pub node_bindings : Accepted → List ℕ
node_bindings a = a.bindings

-- the answer table (K35, K36)
abbrev pub answer_rows : Accepted → List AnswerRow
answer_rows a = rows_from 0 a.answers

abbrev pub answer_kinds : Accepted → List ℕ
answer_kinds a = map (λ (r : AnswerRow). r.kind) (answer_rows a)

abbrev pub answer_numbers : Accepted → List ℤ
answer_numbers a = map (λ (r : AnswerRow). r.number) (answer_rows a)

abbrev pub answer_lengths : Accepted → List ℕ
answer_lengths a = map (λ (r : AnswerRow). r.length) (answer_rows a)

-- the room (K36)
abbrev pub answer_room : Accepted → List ℕ
answer_room a = room_of a.answers

-- ---- the ten lent columns and the room

-- R9: how many rows columns of these lengths hold
abbrev pub shortest : List ℕ → ℕ
shortest [] = 0
shortest (n ∷ []) = n
shortest (n ∷ m ∷ ns) = min n (shortest (m ∷ ns))

abbrev pub token_entries : List ℕ → List ℕ → List ℕ → ℕ
token_entries kinds starts lengths = shortest (length kinds ∷ length starts ∷ length lengths ∷ [])

abbrev pub node_entries : List ℕ → List ℕ → List ℕ → List ℕ → ℕ
node_entries kinds tokens sizes bindings = shortest (length kinds ∷ length tokens ∷ length sizes ∷ length bindings ∷ [])

abbrev pub answer_entries : List ℕ → List ℤ → List ℕ → ℕ
answer_entries kinds numbers lengths = shortest (length kinds ∷ length numbers ∷ length lengths ∷ [])

-- three of tokens, four of nodes, three of answers; and the room for strings
pub record Tables : Type 0 where
  pub token_kinds : List ℕ
  pub token_starts : List ℕ
  pub token_lengths : List ℕ
  pub node_kinds : List ℕ
  pub node_tokens : List ℕ
  pub node_sizes : List ℕ
  pub node_bindings : List ℕ
  pub answer_kinds : List ℕ
  pub answer_numbers : List ℤ
  pub answer_lengths : List ℕ
  pub room : List ℕ

-- The outcome for the bytes of a file and the tables lent
abbrev pub outcome : List ℕ → Tables → Checked
outcome s l =
    checked s (token_entries l.token_kinds l.token_starts l.token_lengths)
    (node_entries l.node_kinds l.node_tokens l.node_sizes l.node_bindings)
    (answer_entries l.answer_kinds l.answer_numbers l.answer_lengths) (length l.room)

-- what the tables hold after an outcome, each column as long as it was
abbrev pub tables_after : Checked → Tables → Tables
tables_after c l =
    record {
      token_kinds = column 0 token_kinds c (length l.token_kinds);
      token_starts = column 0 token_starts c (length l.token_starts);
      token_lengths = column 0 token_lengths c (length l.token_lengths);
      node_kinds = column 0 node_kinds c (length l.node_kinds);
      node_tokens = column 0 node_tokens c (length l.node_tokens);
      node_sizes = column 0 node_sizes c (length l.node_sizes);
      node_bindings = column 0 node_bindings c (length l.node_bindings);
      answer_kinds = column 0 answer_kinds c (length l.answer_kinds);
      answer_numbers = column (pos 0) answer_numbers c (length l.answer_numbers);
      answer_lengths = column 0 answer_lengths c (length l.answer_lengths);
      room = column 0 answer_room c (length l.room);
    }

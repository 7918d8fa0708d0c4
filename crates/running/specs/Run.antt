-- All stages of a file (R3), and what they leave in the lent columns.
use Rattle.std.specs.Prelude.{◌≡◌, ℕ, ◌/◌, ◌≤◌, List, length, take, Ok}
use Rattle.columns.specs.Column.{padded}
use Rattle.express.specs.Tokens.Lexis.{most, lexed}
use Rattle.express.specs.Whole.Reply.{Accepted, Tables, token_entries, node_entries, answer_entries}
use Rattle.express.specs.Whole.Reply as express
use Rattle.stages.specs.Line.{Stage, count_of, accepted_with, token_stage, node_stage, room_stage}
use Rattle.reading.specs.declared.Reading.{Reading}

-- tables begin with the rows of what is accepted
pub record Begins (a : Accepted) (tokens nodes answers : ℕ) (m : Tables) : Type 0 where
  pub token_kinds : take tokens m.token_kinds ≡ express.token_kinds a
  pub token_starts : take tokens m.token_starts ≡ express.token_starts a
  pub token_lengths : take tokens m.token_lengths ≡ express.token_lengths a
  pub node_kinds : take nodes m.node_kinds ≡ express.node_kinds a
  pub node_tokens : take nodes m.node_tokens ≡ express.node_tokens a
  pub node_sizes : take nodes m.node_sizes ≡ express.node_sizes a
  pub node_bindings : take nodes m.node_bindings ≡ express.node_bindings a
  pub answer_kinds : take answers m.answer_kinds ≡ express.answer_kinds a
  pub answer_numbers : take answers m.answer_numbers ≡ express.answer_numbers a
  pub answer_lengths : take answers m.answer_lengths ≡ express.answer_lengths a

-- columns and the room are as long as they were
pub record AsLong (l m : Tables) : Type 0 where
  pub token_kinds : length m.token_kinds ≡ length l.token_kinds
  pub token_starts : length m.token_starts ≡ length l.token_starts
  pub token_lengths : length m.token_lengths ≡ length l.token_lengths
  pub node_kinds : length m.node_kinds ≡ length l.node_kinds
  pub node_tokens : length m.node_tokens ≡ length l.node_tokens
  pub node_sizes : length m.node_sizes ≡ length l.node_sizes
  pub node_bindings : length m.node_bindings ≡ length l.node_bindings
  pub answer_kinds : length m.answer_kinds ≡ length l.answer_kinds
  pub answer_numbers : length m.answer_numbers ≡ length l.answer_numbers
  pub answer_lengths : length m.answer_lengths ≡ length l.answer_lengths
  pub room : length m.room ≡ length l.room

-- R9: the entries of the three tables
abbrev pub token_rows : Tables → ℕ
token_rows l = token_entries l.token_kinds l.token_starts l.token_lengths

abbrev pub node_rows : Tables → ℕ
node_rows l = node_entries l.node_kinds l.node_tokens l.node_sizes l.node_bindings

abbrev pub answer_rows : Tables → ℕ
answer_rows l = answer_entries l.answer_kinds l.answer_numbers l.answer_lengths

-- ALL STAGES OF A FILE, from the tables l to m: how many tokens and nodes there are, how the last stage ended, and where it is done the rows, and the
-- strings with zeros behind
pub record Ran (s : List ℕ) (l m : Tables) (tokens nodes : ℕ) (last : Stage) : Type 0 where
  pub tokens_are : tokens ≡ count_of (token_stage s (token_rows l))
  pub nodes_are : nodes ≡ count_of (node_stage s (token_rows l) (node_rows l))
  pub last_is : last ≡ room_stage s (token_rows l) (node_rows l) (answer_rows l) (length l.room)
  pub begins : (n : ℕ) → last ≡ Ok n → Begins (accepted_with s) tokens nodes n m
  pub strings : (n : ℕ) → last ≡ Ok n → m.room ≡ padded 0 (length l.room) (express.answer_room (accepted_with s))
  pub as_long : AsLong l m

-- sizes of arrays for a file of at most so many tokens, which has a declaration for each five at most
pub record Sizes (tokens_most declared : ℕ) : Type 0 where
  pub few : tokens_most ≤ most
  pub declared_is : declared ≡ tokens_most / 5

-- the same of a file that has at most so many tokens
pub record RunsWithin (tokens_most : ℕ) (s : List ℕ) (l m : Tables) (r : Reading) : Type 0 where
  pub is : length (lexed s).rows ≤ tokens_most → Ran s l m r.tokens r.nodes r.stage

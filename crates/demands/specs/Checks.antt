-- THE CONTRACT OF THE PUBLIC CALL (R1, R16 to R18). Handed the bytes s and the lent tables l, it answers the report r and leaves the tables m.
use Rattle.std.specs.Prelude.{◌≡◌, ◌↔◌, ◌≢◌, ◌⊎◌, List, ℕ, ◌≤◌, ◌<◌, ℤ, pos, length, get_or, replicate}
use Rattle.express.specs.Semantics.Answer.{Answer}
use Rattle.express.specs.Semantics.AnswerRow.{row, row_answer}
use Rattle.express.specs.Semantics.Kind.{constants}
use Rattle.express.specs.Semantics.Rule.{Exactly}
use Rattle.express.specs.Whole.Reply.{Accepted, accepted, Report, report, Tables, token_entries, node_entries, answer_entries, outcome, tables_after}
use Rattle.express.specs.Whole.Acceptance.{Acceptable}

-- the ten columns and the room together
abbrev pub tables_of : List ℕ → List ℕ → List ℕ → List ℕ → List ℕ → List ℕ → List ℕ → List ℕ → List ℤ → List ℕ → List ℕ → Tables
tables_of token_kinds token_starts token_lengths node_kinds node_tokens node_sizes node_bindings answer_kinds answer_numbers answer_lengths room =
    record {
      token_kinds = token_kinds;
      token_starts = token_starts;
      token_lengths = token_lengths;
      node_kinds = node_kinds;
      node_tokens = node_tokens;
      node_sizes = node_sizes;
      node_bindings = node_bindings;
      answer_kinds = answer_kinds;
      answer_numbers = answer_numbers;
      answer_lengths = answer_lengths;
      room = room;
    }

-- R7: tables of zeros, each column as long as it was
abbrev pub zeros : Tables → Tables
zeros l =
    record {
      token_kinds = replicate (length l.token_kinds) 0;
      token_starts = replicate (length l.token_starts) 0;
      token_lengths = replicate (length l.token_lengths) 0;
      node_kinds = replicate (length l.node_kinds) 0;
      node_tokens = replicate (length l.node_tokens) 0;
      node_sizes = replicate (length l.node_sizes) 0;
      node_bindings = replicate (length l.node_bindings) 0;
      answer_kinds = replicate (length l.answer_kinds) 0;
      answer_numbers = replicate (length l.answer_numbers) (pos 0);
      answer_lengths = replicate (length l.answer_lengths) 0;
      room = replicate (length l.room) 0;
    }

-- R9, R17: the file is acceptable within the tables lent, and a is its tokens, its tree, its bindings and its answers
abbrev pub AcceptableIn : List ℕ → Tables → Accepted → Type 0
AcceptableIn s l a =
    Acceptable s (token_entries l.token_kinds l.token_starts l.token_lengths)
    (node_entries l.node_kinds l.node_tokens l.node_sizes l.node_bindings)
    (answer_entries l.answer_kinds l.answer_numbers l.answer_lengths) (length l.room) a

-- K35: the answer that row i of the answer columns stands for, a string by its bytes in the room
abbrev pub row_answer_at : Tables → ℕ → Answer
row_answer_at m i = row_answer m.room (row (get_or m.answer_kinds i 0) (get_or m.answer_numbers i (pos 0)) (get_or m.answer_lengths i 0))

pub record Checks (s : List ℕ) (l m : Tables) (r : Report) : Type 0 where
  -- R1 to R9: the report, each of the ten columns and the room are those of the outcome, whatever the bytes and the lengths
  pub reports : r ≡ report (outcome s l)
  pub holds : m ≡ tables_after (outcome s l) l
  -- THE FIRST DEMAND (R16). R2: every reply is 0, or a refusal from 1 to 15, or 20
  pub numbered : (r.reply ≤ 15) ⊎ (r.reply ≡ 20)
  -- R6, R7: after a refusal the counts are 0 and the tables zeros
  pub cleared : r.reply ≢ 0 → (r.tokens ≡ 0) × (r.nodes ≡ 0) × (r.constants ≡ 0) × (m ≡ zeros l)
  -- THE SECOND (R17). Reply 0 is given exactly to the acceptable files
  pub accepts : (r.reply ≡ 0) ↔ ((a : Accepted) × AcceptableIn s l a)
  -- and what is then reported and held is the file's own: its tokens, the tree of its derivation, its bindings, its answers
  pub tree : (a : Accepted) → AcceptableIn s l a → (r ≡ report (accepted a)) × (m ≡ tables_after (accepted a) l)
  -- THE THIRD (R18). There is a row for each constant of an acceptable file
  pub answers : (a : Accepted) → AcceptableIn s l a → r.constants ≡ length (constants a.table)
  -- and the rules give a constant the answer in its row and no other (K28): `?`, a value of its declared type, or an end (K32)
  pub follows : (a : Accepted) → AcceptableIn s l a → (i : ℕ) → i < r.constants → Exactly a.table a.bindings (get_or (constants a.table) i 0) (row_answer_at m i)

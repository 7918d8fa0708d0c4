-- DEMAND 2 (R17), as a statement: when a file is accepted, and with what.
use Rattle.std.specs.Prelude.{◌≡◌, List, ℕ, ◌≤◌, ◌<◌, length, get_or}
use Rattle.ebnf.specs.Rows.{Row}
use Rattle.ebnf.specs.Depth.{Deep}
use Rattle.express.specs.Semantics.Answer.{indeterminate}
use Rattle.express.specs.Tokens.Lexis.{at, lexed}
use Rattle.express.specs.Tokens.Scanned.{token_table}
use Rattle.express.specs.Syntax.Grammar.{file}
use Rattle.express.specs.Syntax.Syntax.{Parses, opening, closing, nesting, with_rows}
use Rattle.express.specs.Syntax.Tree.{count}
use Rattle.express.specs.Names.Scope.{bindings}
use Rattle.express.specs.Names.Names.{WellNamed}
use Rattle.express.specs.Semantics.Kind.{constants, WellTyped}
use Rattle.express.specs.Semantics.Rule.{Exactly}
use Rattle.express.specs.Semantics.AnswerRow.{room_of}
use Rattle.express.specs.Whole.Reply.{Accepted}

-- The tokens derive from the grammar, every name and type is right, and nothing is too large for the limits and the tables; the tree is that of
-- the derivation, names are bound as they are looked up, and each constant has the answer that the rules give it (K34).
pub record Acceptable (s : List ℕ) (token_rows node_rows answer_rows room_bytes : ℕ) (a : Accepted) : Type 0 where
  -- T1, T17, R9: the bytes are tokens to the end, and there is room for them
  pub end : ℕ
  pub scanned : (lexed s).stop ≡ at end
  pub tokens_are : a.tokens ≡ (lexed s).rows
  pub token_room : length (lexed s).rows ≤ token_rows
  -- G1, G28, G30, R9: the tokens derive from the grammar, and the nodes are those of the derivation; nothing nests too deep
  pub rows : List Row
  pub parses : Parses file (token_table s).terminals rows
  pub shallow : (i : ℕ) → ¬ (Deep opening closing nesting (token_table s).terminals i)
  pub table_is : a.table ≡ with_rows (token_table s) rows
  pub node_room : count a.table ≤ node_rows
  pub answer_room : length (constants a.table) ≤ answer_rows
  -- N18, N19, K4 to K10: no name and no kind is at fault
  pub well_named : WellNamed a.table
  pub bound : a.bindings ≡ bindings a.table
  pub well_typed : WellTyped a.table a.bindings
  -- K34, K36: an answer for each constant, in the order of the text: the one that the rules give
  pub as_many : length a.answers ≡ length (constants a.table)
  pub exact : (i : ℕ) → i < length (constants a.table) → Exactly a.table a.bindings (get_or (constants a.table) i 0) (get_or a.answers i indeterminate)
  -- K36, R9: and there is room for their strings
  pub string_room : length (room_of a.answers) ≤ room_bytes

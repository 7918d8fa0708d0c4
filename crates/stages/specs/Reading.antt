-- The stages up to the node table and the room for answers: what the code of each leaves (replies 1 to 8).
use Rattle.std.specs.Prelude.{◌≡◌, List, [], map, ℕ, min, ◌≤◌, length, take, get_or, Ok, Err}
use Rattle.std.proofs.lemmas.List.Edits.{sets}
use Rattle.ebnf.specs.Rows.{Row}
use Rattle.express.specs.Tokens.Lexis as lexis
use Rattle.express.specs.Tokens.Lexis.{most, lexed}
use Rattle.express.specs.Tokens.Scanned.{token_table}
use Rattle.express.specs.Syntax.Grammar.{file}
use Rattle.express.specs.Syntax.Syntax.{parsed}
use Rattle.express.specs.Syntax.Tree.{Table}
use Rattle.express.specs.Whole.Reply.{token_entries, node_entries}
use Rattle.parsing.specs.declared.Failure.TheVariants.{Unexpected, TooDeep, Short, Scratch, Long}
use Rattle.parsing.specs.Parsing.{Parsed, rows_to, scratch_after}
use Rattle.constants.specs.Constants.{row_in}
use Rattle.stages.specs.declared.Refusal.{Refusal}
use Rattle.stages.specs.Line.{Stage, refusal, then_stage, of_syntax, of_constants, table_of, token_stage, node_stage}

-- ---- tokens

-- `scan_tokens`: how the stage ends, and the rows of the tokens in the columns, as far as they go
pub record ScansTokens (s k₀ s₀ z₀ : List ℕ) (r : Stage) (k' s' z' : List ℕ) : Type 0 where
  pub is : r ≡ token_stage s (token_entries k₀ s₀ z₀)
  pub kinds_are : k' ≡ sets k₀ 0 (lexis.kinds (lexed s))
  pub starts_are : s' ≡ sets s₀ 0 (lexis.starts (lexed s))
  pub lengths_are : z' ≡ sets z₀ 0 (lexis.sizes (lexed s))

-- ---- nodes

-- the answer of a parse as a stage; a list that is too long for a file, or for its scratch, is that of none
abbrev pub of_parse : List ℕ → ℕ → Parsed → Stage
of_parse starts size (Ok n) = Ok n
of_parse starts size (Err (Unexpected j)) = refusal 4 (get_or starts j size)
of_parse starts size (Err (TooDeep k)) = refusal 5 (get_or starts k size)
of_parse starts size (Err (Short n)) = refusal 7 n
of_parse starts size (Err (Scratch n)) = refusal 1 most
of_parse starts size (Err Long) = refusal 1 most

-- the entries that 7 asks for are no more than a file has tokens
abbrev pub Few : Parsed → Type 0
Few (Ok n) = Unit {0}
Few (Err (Unexpected j)) = Unit {0}
Few (Err (TooDeep k)) = Unit {0}
Few (Err (Short n)) = n ≤ most
Few (Err (Scratch n)) = Unit {0}
Few (Err Long) = Unit {0}

pub record OfParse (starts : List ℕ) (size : ℕ) (p : Parsed) (r : Stage) : Type 0 where
  pub is : size ≤ most → Few p → r ≡ of_parse starts size p

-- what is parsed, and what scratch holds then; after a refusal nothing is parsed, and scratch is as it was
abbrev pub rows_after : Stage → List ℕ → List ℕ → List Row
rows_after (Ok n) ts scratch = rows_to file ts scratch
rows_after (Err f) ts scratch = []

abbrev pub left_after : Stage → List ℕ → List ℕ → List ℕ
left_after (Ok n) ts scratch = scratch_after ts scratch
left_after (Err f) ts scratch = scratch

-- `parse_tokens`, for a list of terminals as long as a file may have, with scratch for each
pub record ParsesTokens (before : Stage) (size : ℕ) (starts ts scratch kinds tokens sizes roles : List ℕ) (r : Stage) (scratch' kinds' tokens' sizes' roles' : List ℕ) : Type 0 where
  pub passed_on : (f : Refusal) → before ≡ Err f → r ≡ Err f
  pub is : (n : ℕ) → before ≡ Ok n → size ≤ most → length ts ≤ most → length ts ≤ length scratch → r ≡ of_syntax starts size (node_entries kinds tokens sizes roles) (parsed file ts)
  pub kinds_are : kinds' ≡ sets kinds 0 (map (λ (r : Row). r.kind) (rows_after before ts scratch))
  pub tokens_are : tokens' ≡ sets tokens 0 (map (λ (r : Row). r.token) (rows_after before ts scratch))
  pub sizes_are : sizes' ≡ sets sizes 0 (map (λ (r : Row). r.size) (rows_after before ts scratch))
  pub roles_are : roles' ≡ sets roles 0 (map (λ (r : Row). r.role) (rows_after before ts scratch))
  pub scratch_is : scratch' ≡ left_after before ts scratch

-- the token columns of a file that is scanned, with an entry of each scratch for each token
pub record TokenColumns (s : List ℕ) (n : ℕ) (kinds starts lengths terminals scratch : List ℕ) : Type 0 where
  pub kinds_are : kinds ≡ lexis.kinds (lexed s)
  pub starts_are : starts ≡ lexis.starts (lexed s)
  pub lengths_are : lengths ≡ lexis.sizes (lexed s)
  pub terminal_room : n ≤ length terminals
  pub scratch_room : n ≤ length scratch

-- the first n entries of the node columns are those of a table
pub record NodeColumns (t : Table) (n : ℕ) (kinds tokens sizes roles : List ℕ) : Type 0 where
  pub kinds_are : take n kinds ≡ t.kinds
  pub tokens_are : take n tokens ≡ t.tokens
  pub sizes_are : take n sizes ≡ t.sizes
  pub roles_are : take n roles ≡ t.roles

-- `read_nodes`, after the tokens of a file, with a table of so many entries
pub record NodesRead (s : List ℕ) (token_rows node_rows : ℕ) (r : Stage) (terminals kinds tokens sizes roles : List ℕ) : Type 0 where
  pub is : r ≡ node_stage s token_rows node_rows
  pub terminals_are : (n : ℕ) → token_stage s token_rows ≡ Ok n → take n terminals ≡ (token_table s).terminals
  pub nodes_are : (n : ℕ) → r ≡ Ok n → NodeColumns (table_of s) n kinds tokens sizes roles

pub record ReadsNodes (s : List ℕ) (before : Stage) (token_kinds starts lengths terminals scratch kinds tokens sizes roles : List ℕ) (r : Stage)
    (terminals' scratch' kinds' tokens' sizes' roles' : List ℕ) : Type 0 where
  pub scratch_is : scratch' ≡ left_after before (take (min (length token_kinds) (length terminals')) terminals') scratch
  pub is :
      (token_rows : ℕ) → before ≡ token_stage s token_rows → ((n : ℕ) → before ≡ Ok n → TokenColumns s n token_kinds starts lengths terminals scratch) →
      NodesRead s token_rows (node_entries kinds tokens sizes roles) r terminals' kinds' tokens' sizes' roles'

-- ---- room for the answers

-- how many constants there are among nodes of these kinds
pub record Constants (kinds : List ℕ) (n : ℕ) : Type 0 where
  pub is : n ≡ row_in kinds (length kinds)

-- `fit_constants`, for no more nodes than a file may have
pub record FitsConstants (before : Stage) (kinds : List ℕ) (entries : ℕ) (r : Stage) : Type 0 where
  pub is : length kinds ≤ most → r ≡ then_stage before (λ _. of_constants kinds entries)

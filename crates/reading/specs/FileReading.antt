-- The stages up to the room for answers, in one call, with the words of the parser in an array of their own (replies 1 to 8).
use Rattle.std.specs.Prelude.{◌≡◌, List, ℕ, ◌≤◌, length, take, Ok}
use Rattle.express.specs.Tokens.Lexis.{lexed}
use Rattle.express.specs.Tokens.Lexis as lexis
use Rattle.express.specs.Syntax.Tree.{Table}
use Rattle.express.specs.Whole.Reply.{token_entries, node_entries}
use Rattle.stages.specs.Line.{Stage, count_of, table_of, token_stage, node_stage, constant_stage}
use Rattle.stages.specs.Reading.{TokenColumns, NodesRead}
use Rattle.reading.specs.declared.Reading.{Reading}

-- the bytes of a small file, and of one of middle size
abbrev pub small_bytes : ℕ
small_bytes = 2048

abbrev pub middle_bytes : ℕ
middle_bytes = 16384

-- tokens or nodes of files that have few, some and many of them
abbrev pub few_rows : ℕ
few_rows = 512

abbrev pub some_rows : ℕ
some_rows = 6144

abbrev pub many_rows : ℕ
many_rows = 20480

-- `read_nodes` with words of its own, for files of at most so many tokens
pub record ReadsWithin (tokens_most : ℕ) (s : List ℕ) (before : Stage) (token_kinds starts lengths terminals kinds tokens sizes roles : List ℕ) (r : Stage)
    (terminals' kinds' tokens' sizes' roles' : List ℕ) : Type 0 where
  pub is :
      length token_kinds ≤ tokens_most → (token_rows : ℕ) → before ≡ token_stage s token_rows →
      ((n : ℕ) → before ≡ Ok n → (words : List ℕ) → n ≤ length words → TokenColumns s n token_kinds starts lengths terminals words) →
      NodesRead s token_rows (node_entries kinds tokens sizes roles) r terminals' kinds' tokens' sizes' roles'

-- the columns begin with the tokens and the nodes of a file
pub record FileBegins (s : List ℕ) (t : Table) (tokens nodes : ℕ) (token_kinds token_starts token_lengths terminals node_kinds node_tokens node_sizes roles : List ℕ) : Type 0 where
  pub token_kinds_are : take tokens token_kinds ≡ lexis.kinds (lexed s)
  pub token_starts_are : take tokens token_starts ≡ t.starts
  pub token_lengths_are : take tokens token_lengths ≡ t.lengths
  pub terminals_are : take tokens terminals ≡ t.terminals
  pub node_kinds_are : take nodes node_kinds ≡ t.kinds
  pub node_tokens_are : take nodes node_tokens ≡ t.tokens
  pub node_sizes_are : take nodes node_sizes ≡ t.sizes
  pub roles_are : take nodes roles ≡ t.roles

-- how many tokens and nodes there are, how the stages end, and where they are done the columns
pub record FileRead (s : List ℕ) (token_rows node_rows answer_rows : ℕ) (r : Reading) (token_kinds token_starts token_lengths terminals node_kinds node_tokens node_sizes roles : List ℕ)
    : Type 0 where
  pub tokens_are : r.tokens ≡ count_of (token_stage s token_rows)
  pub nodes_are : r.nodes ≡ count_of (node_stage s token_rows node_rows)
  pub stage_is : r.stage ≡ constant_stage s token_rows node_rows answer_rows
  pub begins : (n : ℕ) → r.stage ≡ Ok n → FileBegins s (table_of s) r.tokens r.nodes token_kinds token_starts token_lengths terminals node_kinds node_tokens node_sizes roles

-- `read_file`: what is counted is in the columns, whatever they are; and the file is read where there is a terminal for each token
pub record ReadsFile (s token_kinds token_starts token_lengths terminals node_kinds node_tokens node_sizes roles : List ℕ) (answer_rows : ℕ) (r : Reading)
    (token_kinds' token_starts' token_lengths' terminals' node_kinds' node_tokens' node_sizes' roles' : List ℕ) : Type 0 where
  pub tokens_in : (r.tokens ≤ token_entries token_kinds token_starts token_lengths) × (r.tokens ≤ length terminals)
  pub nodes_in : r.nodes ≤ node_entries node_kinds node_tokens node_sizes roles
  pub is :
      length (lexed s).rows ≤ length terminals →
      FileRead s (token_entries token_kinds token_starts token_lengths) (node_entries node_kinds node_tokens node_sizes roles) answer_rows r token_kinds' token_starts' token_lengths'
      terminals'
      node_kinds' node_tokens' node_sizes' roles'

-- What a parse answers, and what it leaves in the four node columns and in its scratch: for a list of terminals read as a text of a nonterminal.
use Rattle.std.specs.Prelude.{Bool, ◌&&◌, cond, List, [], ◌++◌, map, ◌≡◌, ℕ, length, drop, replicate, leb, Result, Ok, Err}
use Rattle.std.proofs.lemmas.List.Edits.{sets}
use Rattle.ebnf.specs.Rows.{Row, Rows}
use Rattle.ebnf.specs.Depth.{Outcome, good, unexpected, too_deep}
use Rattle.express.specs.Syntax.Grammar.{Nonterminal}
use Rattle.express.specs.Syntax.Syntax.{parsed}
use Rattle.express.specs.Whole.Reply.{node_entries}
use Rattle.parsing.specs.declared.Failure.{Failure}
use Rattle.parsing.specs.declared.Failure.TheVariants.{Unexpected, TooDeep, Short, Scratch, Long}

-- ---- answers

-- what a parse answers: the number of nodes, or why there is no node table
abbrev pub Parsed : Type 0
Parsed = Result ℕ Failure

-- An answer as a reply: accepted is 0; 4 is a token that no text goes on with, 5 the 65th bracket open at once, 7 a node table that is too short
-- and 1 a list longer than any file's. That scratch is too short is no reply of the checker, which lends enough.
abbrev pub reply : Parsed → ℕ
reply (Ok n) = 0
reply (Err (Unexpected j)) = 4
reply (Err (TooDeep k)) = 5
reply (Err (Short n)) = 7
reply (Err (Scratch n)) = 255
reply (Err Long) = 1

-- T1, G36: a file has at most as many tokens as it may have bytes; a longer list is not read
abbrev pub most : ℕ
most = 65536

-- What stands beside it: the number of nodes; the index of the token refused; the entries or the words of scratch needed; the limit.
abbrev pub token_or_count : Parsed → ℕ
token_or_count (Ok n) = n
token_or_count (Err (Unexpected j)) = j
token_or_count (Err (TooDeep k)) = k
token_or_count (Err (Short n)) = n
token_or_count (Err (Scratch n)) = n
token_or_count (Err Long) = most

-- ---- the outcome of a list, as an answer and as rows

-- the rows of an accepted text; a refused one leaves none
abbrev pub rows_of : Outcome Rows → List Row
rows_of (good s) = s.rows
rows_of (unexpected j) = []
rows_of (too_deep k) = []

-- the answer, where the shortest column has so many entries
abbrev pub answer : ℕ → Outcome Rows → Parsed
answer entries (good s) = cond (leb (length s.rows) entries) (Ok (length s.rows)) (Err (Short (length s.rows)))
answer entries (unexpected j) = Err (Unexpected j)
answer entries (too_deep k) = Err (TooDeep k)

-- ---- what is read, and what scratch holds then

-- a list that is not too long, with a word of scratch for each terminal
abbrev pub is_read : List ℕ → List ℕ → Bool
is_read ts scratch = leb (length ts) most && leb (length ts) (length scratch)

abbrev pub answer_to : Nonterminal → List ℕ → List ℕ → ℕ → Parsed
answer_to x ts scratch entries = cond (leb (length ts) most) (cond (leb (length ts) (length scratch)) (answer entries (parsed x ts)) (Err (Scratch (length ts)))) (Err Long)

abbrev pub rows_to : Nonterminal → List ℕ → List ℕ → List Row
rows_to x ts scratch = cond (is_read ts scratch) (rows_of (parsed x ts)) []

-- zeros in the part that is used, and the rest as it was; all of it as it was where nothing is read
abbrev pub scratch_after : List ℕ → List ℕ → List ℕ
scratch_after ts scratch = cond (is_read ts scratch) (replicate (length ts) 0 ++ drop (length ts) scratch) scratch

-- THE PARSE of the terminals ts as a text of x: its answer, each column as it was with the rows written as far as they fit, and the scratch. (After a
-- refusal by 4 or 5 there are no rows; after 7 there are all.)
pub record Parsing (x : Nonterminal) (ts : List ℕ) (r : Parsed) (scratch kinds tokens sizes roles scratch' kinds' tokens' sizes' roles' : List ℕ) : Type 0 where
  pub answers : r ≡ answer_to x ts scratch (node_entries kinds tokens sizes roles)
  pub kinds_are : kinds' ≡ sets kinds 0 (map (λ (r : Row). r.kind) (rows_to x ts scratch))
  pub tokens_are : tokens' ≡ sets tokens 0 (map (λ (r : Row). r.token) (rows_to x ts scratch))
  pub sizes_are : sizes' ≡ sets sizes 0 (map (λ (r : Row). r.size) (rows_to x ts scratch))
  pub roles_are : roles' ≡ sets roles 0 (map (λ (r : Row). r.role) (rows_to x ts scratch))
  pub scratch_is : scratch' ≡ scratch_after ts scratch

-- The stages between the readers and the columns: the outcome of a list whose rows stand in words, and the words in columns.
use Rattle.std.specs.Prelude.{cond, List, map, ◌≡◌, ℕ, ◌+◌, ◌/◌, ◌%◌, ◌≤◌, length, take, replicate, eqb, ltb, leb, Result, Ok, Err}
use Rattle.std.proofs.Math.Option.{Option, some, none as nowhere}
use Rattle.std.proofs.lemmas.List.Edits.{sets}
use Rattle.columns.specs.Column.{tabulated}
use Rattle.ebnf.specs.Rows.{Row, Rows}
use Rattle.ebnf.specs.Depth.{Outcome, good, unexpected, too_deep, opened, first_deep}
use Rattle.express.specs.Syntax.Grammar.{Nonterminal}
use Rattle.express.specs.Syntax.Syntax.{opening, closing, nesting, parsed}
use Rattle.parsing.specs.declared.Refusal.{Refusal}
use Rattle.parsing.specs.declared.Refusal.TheVariants.{Unexpected, TooDeep}
use Rattle.parsing.specs.declared.Failure.{Failure}
use Rattle.parsing.specs.declared.Failure.TheVariants.{Unexpected as unexpected_at, TooDeep as too_deep_at, Short}
use Rattle.parsing.specs.Reading.{Read, word_of, All_fit}
use Rattle.express.specs.Whole.Reply.{node_entries}
use Rattle.parsing.specs.Parsing.{Parsed, answer, rows_of}

-- what a list comes to: the number of its rows, or why it is refused
abbrev pub Judgement : Type 0
Judgement = Result ℕ Refusal

-- ---- the limit on nesting (G28)

-- how many brackets are open after each terminal, where one is before it
abbrev pub steps : List ℕ
steps = tabulated (opened opening closing 1) 0 256

-- a token, or the length where there is none
abbrev pub or_end : Option ℕ → ℕ → ℕ
or_end (some k) l = k
or_end nowhere l = l

abbrev pub deep_or_end : List ℕ → ℕ
deep_or_end ts = or_end (first_deep opening closing nesting 0 ts) (length ts)

-- what is read: the tokens up to and including one that is too deep
abbrev pub end_of : ℕ → ℕ → ℕ
end_of deep length = cond (ltb deep length) (deep + 1) length

-- what an answer on the tokens before `end` says of all, where the one at `deep` is too deep or `deep` is their number
abbrev pub judged : Read → ℕ → ℕ → Judgement
judged (Ok next) deep end = cond (eqb next.token end) (cond (ltb deep end) (Err (TooDeep deep)) (Ok next.row)) (Err (Unexpected next.token))
judged (Err e) deep end = cond (ltb deep e.token) (Err (TooDeep deep)) (Err (Unexpected e.token))

-- ---- rows in words

-- A judgement r and the words b, from a, are what an outcome says.
abbrev pub Judges : Outcome Rows → Judgement → List ℕ → List ℕ → Type 0
Judges (good s) r a b = (r ≡ Ok (length s.rows)) × (b ≡ sets a 0 (map word_of s.rows)) × All_fit s.rows
Judges (unexpected j) r a b = r ≡ Err (Unexpected j)
Judges (too_deep k) r a b = r ≡ Err (TooDeep k)

-- the parts of a word
abbrev pub kind_in : ℕ → ℕ
kind_in w = w % 256

abbrev pub role_in : ℕ → ℕ
role_in w = w / 256 % 256

abbrev pub token_in : ℕ → ℕ
token_in w = w / 65536 % 1048576

abbrev pub size_in : ℕ → ℕ
size_in w = w / 68719476736 % 1048576

-- a part of each of the first n words, in a column as far as it goes
abbrev pub unpacked : {A : Type 0} → (ℕ → A) → ℕ → List ℕ → List A → List A
unpacked part n words column = sets column 0 (map part (take n words))

-- how many words a judgement speaks of
abbrev pub count : Judgement → ℕ
count (Ok n) = n
count (Err e) = 0

-- The judgement on a whole list of terminals, as a text of x.
pub record Judging (x : Nonterminal) (ts : List ℕ) (r : Judgement) (a b : List ℕ) : Type 0 where
  pub judges : Judges (parsed x ts) r a b
  pub few : count r ≤ length ts

-- why a list is refused, as an answer
abbrev pub failure_of : Refusal → Failure
failure_of (Unexpected j) = unexpected_at j
failure_of (TooDeep k) = too_deep_at k

-- a judgement as an answer, where the shortest column has so many entries
abbrev pub answered : ℕ → Judgement → Parsed
answered l (Ok n) = cond (leb n l) (Ok n) (Err (Short n))
answered l (Err e) = Err (failure_of e)

-- The tail of a parse: from a judgement and its words to the answer, the columns and zeros.
pub record LaysOut (j : Judgement) (r : Parsed) (words kinds tokens sizes roles words' kinds' tokens' sizes' roles' : List ℕ) : Type 0 where
  pub answers : r ≡ answered (node_entries kinds tokens sizes roles) j
  pub kinds_are : kinds' ≡ unpacked kind_in (count j) words kinds
  pub tokens_are : tokens' ≡ unpacked token_in (count j) words tokens
  pub sizes_are : sizes' ≡ unpacked size_in (count j) words sizes
  pub roles_are : roles' ≡ unpacked role_in (count j) words roles
  pub words_are : words' ≡ replicate (length words) 0

-- The parse of a list that is read, by way of a word for each terminal.
pub record Parses (x : Nonterminal) (ts : List ℕ) (r : Parsed) (words kinds tokens sizes roles words' kinds' tokens' sizes' roles' : List ℕ) : Type 0 where
  pub answers : r ≡ answer (node_entries kinds tokens sizes roles) (parsed x ts)
  pub kinds_are : kinds' ≡ sets kinds 0 (map (λ (r : Row). r.kind) (rows_of (parsed x ts)))
  pub tokens_are : tokens' ≡ sets tokens 0 (map (λ (r : Row). r.token) (rows_of (parsed x ts)))
  pub sizes_are : sizes' ≡ sets sizes 0 (map (λ (r : Row). r.size) (rows_of (parsed x ts)))
  pub roles_are : roles' ≡ sets roles 0 (map (λ (r : Row). r.role) (rows_of (parsed x ts)))
  pub words_are : words' ≡ replicate (length words) 0

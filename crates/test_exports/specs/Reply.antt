-- A reading step or a typing as two numbers: its reply, and the number beside it.
use Rattle.std.specs.Prelude.{ℕ, ◌≡◌, List, Result, Ok, Err}
use Rattle.std.proofs.lemmas.List.Edits.{sets}
use Rattle.express.specs.Tokens.Lexis as Lexis
use Rattle.express.specs.Syntax.Grammar.{file}
use Rattle.express.specs.Whole.Reply.{token_entries}
use Rattle.parsing.specs.Parsing as Parsing
use Rattle.parsing.specs.Parsing.{Parsed}
use Rattle.typing.specs.declared.IllTyped.{IllTyped}
use Rattle.typing.specs.Typings.{TypesConstants}
use Rattle.express.specs.Tokens.Lexis.{Reading, at, refused, lexed_to, tokens}

-- 0 for a new place or a count, else the number of the refusal
abbrev pub reply : Reading → ℕ
reply (at p) = 0
reply (refused k p) = k

-- the new place or the count; the place of the refusal, or the entries needed
abbrev pub number : Reading → ℕ
number (at p) = p
number (refused k p) = p

-- what `woffulent_scan` answers and leaves: the promise of `scan`, its step as two numbers
pub record Scans (limit : ℕ) (src k₀ s₀ z₀ : List ℕ) (r n : ℕ) (k s z : List ℕ) : Type 0 where
  pub replies : r ≡ reply (tokens (lexed_to limit src) (token_entries k₀ s₀ z₀))
  pub counts : n ≡ number (tokens (lexed_to limit src) (token_entries k₀ s₀ z₀))
  pub kinds : k ≡ sets k₀ 0 (Lexis.kinds (lexed_to limit src))
  pub starts : s ≡ sets s₀ 0 (Lexis.starts (lexed_to limit src))
  pub lengths : z ≡ sets z₀ 0 (Lexis.sizes (lexed_to limit src))

-- what `woffulent_parse` answers and leaves: the promise of `parse`, its answer as two numbers
pub record Parses (ts : List ℕ) (r n : ℕ) (s k t z o s' k' t' z' o' : List ℕ) : Type 0 where
  pub answer : Parsed
  pub parses : Parsing.Parsing file ts answer s k t z o s' k' t' z' o'
  pub replies : r ≡ Parsing.reply answer
  pub counts : n ≡ Parsing.token_or_count answer

-- 0 where all is typed, else the number of the fault, and its node
abbrev pub typing_reply : Result (Unit {0}) IllTyped → ℕ
typing_reply (Ok _) = 0
typing_reply (Err i) = i.reply

abbrev pub typing_node : Result (Unit {0}) IllTyped → ℕ
typing_node (Ok _) = 0
typing_node (Err i) = i.node

-- what `woffulent_type_constants` answers and leaves: the promise of `type_constants`, its answer as two numbers
pub record Types (terminals kinds tokens sizes bindings declared scratch scratch' : List ℕ) (r n : ℕ) : Type 0 where
  pub answer : Result (Unit {0}) IllTyped
  pub types : TypesConstants terminals kinds tokens sizes bindings declared scratch scratch' answer
  pub replies : r ≡ typing_reply answer
  pub names : n ≡ typing_node answer

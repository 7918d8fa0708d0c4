-- What the steps of the token reader mean, and what its calls promise (T1 to T18).
use Rattle.std.specs.Prelude.{ℕ, ◌+◌, ◌≤◌, ◌<◌, Bool, cond, ◌≡◌, List, length, Result, Ok, Err}
use Rattle.std.proofs.lemmas.List.Edits.{sets}
use Rattle.columns.specs.Column.{tabulated}
use Rattle.express.specs.Tokens.Bytes.{word_byte}
use Rattle.express.specs.Tokens.Lexis as Lexis
use Rattle.express.specs.Tokens.Lexis.{Reading, at, refused, run, Lexed, lone, token_kind_at, end_of_token, lexed_to, tokens}
use Rattle.express.specs.Whole.Reply.{token_entries}
use Rattle.blanks.specs.declared.Refusal.{Refusal}
use Rattle.blanks.specs.Step.{reading}
use Rattle.scan.specs.declared.Token.{Token}

-- the bytes `0`, `1`, `:` and `_`
abbrev pub zero_mark : ℕ
zero_mark = 48

abbrev pub one_mark : ℕ
one_mark = 49

abbrev pub colon : ℕ
colon = 58

abbrev pub underscore : ℕ
underscore = 95

abbrev pub mark : Bool → ℕ
mark x = cond x one_mark zero_mark

-- by its byte: `1` for what a word goes on with
unfoldable pub word_table : List ℕ
word_table = tabulated (λ b. mark (word_byte b)) 0 256

-- by its byte: the byte itself where it is a symbol that begins no longer one, else `_`
abbrev pub lone_mark : ℕ → ℕ
lone_mark b = cond (lone b) b underscore

unfoldable pub lone_table : List ℕ
lone_table = tabulated lone_mark 0 256

-- r of the four bytes at a place go on a word, and where that is not all of them, the next one does not
pub record WordBytes (s : List ℕ) (i r : ℕ) : Type 0 where
  pub few : r ≤ 4
  pub goes_on : run word_byte s (i + r) ≡ run word_byte s i
  pub ends : r < 4 → run word_byte s (i + r) ≡ i + r

-- what is read of a token of a kind: its end, or its refusal
abbrev pub of_kind : ℕ → Result ℕ Refusal → Result Token Refusal
of_kind k (Ok e) = Ok (record { kind = k; end = e })
of_kind k (Err m) = Err m

-- what `token` answers: the end of the token at p and its kind, or its refusal
pub record TokenRead (s : List ℕ) (p : ℕ) (r : Result Token Refusal) : Type 0 where
  pub end : Result ℕ Refusal
  pub is : reading end ≡ end_of_token s p (token_kind_at s p)
  pub token_is : r ≡ of_kind (token_kind_at s p) end

-- what `fill` answers and leaves: the number of rows or the refusal, and the rows over what the columns held, as far as they go
abbrev pub ended : Reading → ℕ → Reading
ended (at q) n = at n
ended (refused k o) n = refused k o

pub record Filled (l : Lexed) (k₀ s₀ z₀ : List ℕ) (r : Result ℕ Refusal) (k s z : List ℕ) : Type 0 where
  pub is : reading r ≡ ended l.stop (length l.rows)
  pub kinds : k ≡ sets k₀ 0 (Lexis.kinds l)
  pub starts : s ≡ sets s₀ 0 (Lexis.starts l)
  pub lengths : z ≡ sets z₀ 0 (Lexis.sizes l)

-- what `scan` answers and leaves, for any limit, bytes and columns; the columns' table is as long as the shortest of them
pub record ScanResult (limit : ℕ) (src k₀ s₀ z₀ : List ℕ) (r : Result ℕ Refusal) (k s z : List ℕ) : Type 0 where
  pub is : reading r ≡ tokens (lexed_to limit src) (token_entries k₀ s₀ z₀)
  pub kinds : k ≡ sets k₀ 0 (Lexis.kinds (lexed_to limit src))
  pub starts : s ≡ sets s₀ 0 (Lexis.starts (lexed_to limit src))
  pub lengths : z ≡ sets z₀ 0 (Lexis.sizes (lexed_to limit src))

-- What lies between tokens: spaces and remarks (T4 to T6). Each relation holds between a text and what is left of it.
use Rattle.std.specs.Prelude.{◌≡◌, true, false, List, [], ◌∷◌, ℕ, suc, ◌+◌, ◌<◌, length, drop}
use Rattle.express.specs.Tokens.Bytes.{space}
use Rattle.express.specs.Tokens.Lexis.{Reading, at, refused, opens, closes, dashes, in_line, TokenRow, most}

-- the rest of a line: up to a line feed, which is left, or to the end of the text
pub data Line : List ℕ → List ℕ → Type 0 where
  text_ends : Line [] []
  line_ends : {b : ℕ} {t : List ℕ} → in_line b ≡ false → Line (b ∷ t) (b ∷ t)
  line_goes : {b : ℕ} {t u : List ℕ} → in_line b ≡ true → Line t u → Line (b ∷ t) u

-- inside so many remarks: `(*` opens one more, `*)` closes one, any other byte passes
pub data Remark : ℕ → List ℕ → List ℕ → Type 0 where
  outside : {t : List ℕ} → Remark 0 t t
  opened : {d b c : ℕ} {t u : List ℕ} → opens b c ≡ true → Remark (suc (suc d)) t u → Remark (suc d) (b ∷ c ∷ t) u
  closed : {d b c : ℕ} {t u : List ℕ} → closes b c ≡ true → Remark d t u → Remark (suc d) (b ∷ c ∷ t) u
  passed : {d b c : ℕ} {t u : List ℕ} → opens b c ≡ false → closes b c ≡ false → Remark (suc d) (c ∷ t) u → Remark (suc d) (b ∷ c ∷ t) u

-- any number of spaces, remarks from `--` on, and remarks in `(*` and `*)`
pub data Blank : List ℕ → List ℕ → Type 0 where
  nothing : {t : List ℕ} → Blank t t
  a_space : {b : ℕ} {t u : List ℕ} → space b ≡ true → Blank t u → Blank (b ∷ t) u
  a_line : {b c : ℕ} {t u v : List ℕ} → dashes b c ≡ true → Line t u → Blank u v → Blank (b ∷ c ∷ t) v
  a_remark : {b c : ℕ} {t u v : List ℕ} → opens b c ≡ true → Remark 1 t u → Blank u v → Blank (b ∷ c ∷ t) v

-- ---- rows and what lies between them

-- from one place to another: blanks, a token, blanks, a token and so on, and blanks at the end
pub data Gaps (s : List ℕ) : ℕ → List TokenRow → ℕ → Type 0 where
  last_gap : {p e : ℕ} → Blank (drop p s) (drop e s) → Gaps s p [] e
  gap : {p e : ℕ} {r : TokenRow} {rs : List TokenRow} → Blank (drop p s) (drop r.start s) → Gaps s (r.start + r.size) rs e → Gaps s p (r ∷ rs) e

-- how the reading of a text stops: at its end, at a byte from which on a token is unfinished or a literal too large, or at once
pub data Stop (s : List ℕ) : Reading → Type 0 where
  all_read : Stop s (at (length s))
  unfinished : {p : ℕ} → p < length s → Stop s (refused 2 p)
  too_large : {p : ℕ} → p < length s → Stop s (refused 3 p)
  too_long : most < length s → Stop s (refused 1 most)

-- its place
abbrev pub stop_place : Reading → ℕ
stop_place (at q) = q
stop_place (refused n o) = o

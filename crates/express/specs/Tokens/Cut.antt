-- A text cut between two tokens: from one place to another by whole tokens and whole blanks, each of which is where it is by its own bytes alone.
use Rattle.std.specs.Prelude.{◌≡◌, Bool, true, false, ◌&&◌, ◌||◌, List, [], ◌∷◌, ◌++◌, map, ℕ, ◌+◌, ◌-◌, ◌<◌, eqb, length, drop, get_or}
use Rattle.relations.specs.Select.{any}
use Rattle.express.specs.Tokens.Bytes.{word_byte, space}
use Rattle.express.specs.Tokens.Terminal.{Fixed, symbols}
use Rattle.express.specs.Tokens.Token.{longest_kind}
use Rattle.express.specs.Tokens.Lexis.{Reading, at, refused, run, pair, opens, dashes, in_line, end_of_remark, longest_end, TokenRow, Lexed}

-- the rows of the tokens that are passed from p to c; a remark from `--` on is passed with its line feed
pub data Passes (s : List ℕ) : ℕ → List TokenRow → ℕ → Type 0 where
  here : {p : ℕ} → Passes s p [] p
  over_space : {p c : ℕ} {rs : List TokenRow} → space (get_or s p 0) ≡ true → Passes s (p + 1) rs c → Passes s p rs c
  over_line :
      {p c : ℕ} {rs : List TokenRow} → dashes (get_or s p 0) (get_or s (p + 1) 0) ≡ true → run in_line s (p + 2) < length s →
      Passes s (run in_line s (p + 2) + 1) rs c → Passes s p rs c
  over_remark :
      {p e c : ℕ} {rs : List TokenRow} → opens (get_or s p 0) (get_or s (p + 1) 0) ≡ true → end_of_remark p 1 (p + 2) (drop (p + 2) s) ≡ at e →
      Passes s e rs c → Passes s p rs c
  over_token :
      {p e c : ℕ} {rs : List TokenRow} → space (get_or s p 0) ≡ false → dashes (get_or s p 0) (get_or s (p + 1) 0) ≡ false → opens (get_or s p 0) (get_or s (p + 1) 0) ≡ false →
      longest_end s p ≡ at e → Passes s e rs c → Passes s p (record { kind = longest_kind (drop p s); start = p; size = e - p } ∷ rs) c

-- ---- tokens moved by c bytes, and tokens behind others

abbrev pub moved_row : ℕ → TokenRow → TokenRow
moved_row c r = record { kind = r.kind; start = c + r.start; size = r.size }

abbrev pub moved_stop : ℕ → Reading → Reading
moved_stop c (at q) = at (c + q)
moved_stop c (refused n o) = refused n (c + o)

abbrev pub moved : ℕ → Lexed → Lexed
moved c l = record { rows = map (moved_row c) l.rows; stop = moved_stop c l.stop }

abbrev pub behind : List TokenRow → Lexed → Lexed
behind rs l = record { rows = rs ++ l.rows; stop = l.stop }

-- ---- two texts side by side

-- one byte after another in a spelling
unfoldable pub adjacent : ℕ → ℕ → List ℕ → Bool
adjacent b c [] = false
adjacent b c (x ∷ []) = false
adjacent b c (x ∷ y ∷ w) = let rest = adjacent b c (y ∷ w) in (eqb b x && eqb c y) || rest

-- a byte of words, numbers and binaries
abbrev pub number_byte : ℕ → Bool
number_byte b = word_byte b || (eqb b 46 || (eqb b 43 || (eqb b 45 || eqb b 37)))

-- two bytes that may belong to one token, or begin a remark
unfoldable pub joins : ℕ → ℕ → Bool
joins b c =
    (number_byte b && number_byte c) ||
    (any (λ (f : Fixed). adjacent b c f.spelling) symbols || (pair 39 39 b c || (dashes b c || opens b c)))

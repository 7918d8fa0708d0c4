-- THE TOKENS, by their spellings: which bytes spell a token of each kind, and the token with which a text begins: the longest that stands there.
use Rattle.std.specs.Prelude.{Bool, true, false, cond, not, ◌&&◌, List, [], ◌∷◌, ℕ, zero, suc, eqb, length, take, get_or}
use Rattle.express.specs.Tokens.Bytes.{digit, letter, bit, exponent_mark, sign, word_byte, printable}
use Rattle.express.specs.Tokens.Terminal.{symbol_terminal}

-- each byte is of a class
unfoldable pub all_of : (ℕ → Bool) → List ℕ → Bool
all_of f [] = true
all_of f (b ∷ w) = let rest = all_of f w in f b && rest

-- and there is one at least
abbrev pub some_of : (ℕ → Bool) → List ℕ → Bool
some_of f [] = false
some_of f (b ∷ w) = f b && all_of f w

-- ---- the spellings

-- a letter, then letters, digits and underscores (T8)
abbrev pub is_word : List ℕ → Bool
is_word [] = false
is_word (b ∷ w) = letter b && all_of word_byte w

-- digits (T10)
abbrev pub is_integer : List ℕ → Bool
is_integer w = some_of digit w

-- behind the mark of an exponent: a sign if any, and digits (T12)
abbrev pub is_exponent : List ℕ → Bool
is_exponent [] = false
is_exponent (b ∷ w) = cond (sign b) (some_of digit w) (some_of digit (b ∷ w))

-- behind the point: digits if any, then an exponent if any
unfoldable pub is_fraction : List ℕ → Bool
is_fraction [] = true
is_fraction (b ∷ w) = let more = is_fraction w in cond (digit b) more (exponent_mark b && is_exponent w)

-- behind the first digit: digits if any, the point, and what stands behind it
unfoldable pub is_decimal : List ℕ → Bool
is_decimal [] = false
is_decimal (b ∷ w) = let more = is_decimal w in cond (digit b) more (eqb b 46 && is_fraction w)

-- (T11)
abbrev pub is_real : List ℕ → Bool
is_real [] = false
is_real (b ∷ w) = digit b && is_decimal w

-- behind the first quote of a string, just after another quote or not: a quote ends the string, two stand for one
unfoldable pub in_string : Bool → List ℕ → Bool
in_string true [] = true
in_string false [] = false
in_string true (b ∷ w) = let on = in_string false w in eqb b 39 && on
in_string false (b ∷ w) =
    let quote = in_string true w in
    let on = in_string false w in
    cond (eqb b 39) quote (printable b && on)

-- (T13)
abbrev pub is_string : List ℕ → Bool
is_string [] = false
is_string (b ∷ w) = eqb b 39 && in_string false w

-- `%` and bits (T14)
abbrev pub is_binary : List ℕ → Bool
is_binary [] = false
is_binary (b ∷ w) = eqb b 37 && some_of bit w

-- one of the table of symbols (T15)
abbrev pub is_symbol : List ℕ → Bool
is_symbol w = not (eqb (symbol_terminal w) 0)

-- T18: the kind of token that bytes spell, and 0 where they spell none
unfoldable pub spelled_kind : List ℕ → ℕ
spelled_kind w =
    cond (is_word w) 1
    (cond (is_integer w) 2
    (cond (is_real w) 3
    (cond (is_string w) 4
    (cond (is_binary w) 5
    (cond (is_symbol w) 6 0)))))

-- ---- the longest token (T2)

-- the kind of token that the first n bytes of a text are: a string is not ended by a quote that another follows
unfoldable pub standing_kind : List ℕ → ℕ → ℕ
standing_kind t n = let k = spelled_kind (take n t) in cond (eqb k 4 && eqb (get_or t n 0) 39) 0 k

-- the size of the longest token of at most n bytes with which a text begins, or 0
unfoldable pub longest : List ℕ → ℕ → ℕ
longest t zero = 0
longest t (suc n) = let shorter = longest t n in cond (eqb (standing_kind t (suc n)) 0) shorter (suc n)

abbrev pub longest_size : List ℕ → ℕ
longest_size t = longest t (length t)

abbrev pub longest_kind : List ℕ → ℕ
longest_kind t = standing_kind t (longest_size t)

-- Classes of bytes: letters (T3), space (T4), what goes on with a word (T8), what a string holds (T13).
use Rattle.std.specs.Prelude.{ℕ, ◌+◌, ◌-◌, Bool, true, false, cond, ◌&&◌, ◌||◌, List, [], ◌∷◌, leb, eqb, take, drop}

-- the bytes of a token: so many of a text, from a start on
abbrev pub token_bytes : List ℕ → ℕ → ℕ → List ℕ
token_bytes s p n = take n (drop p s)

-- whether two lists of bytes are equal
unfoldable pub same : List ℕ → List ℕ → Bool
same [] [] = true
same [] (y ∷ ys) = false
same (x ∷ xs) [] = false
same (x ∷ xs) (y ∷ ys) = let rest = same xs ys in eqb x y && rest

abbrev pub within : ℕ → ℕ → ℕ → Bool
within lo hi b = leb lo b && leb b hi

abbrev pub digit : ℕ → Bool
digit b = within 48 57 b

abbrev pub capital : ℕ → Bool
capital b = within 65 90 b

abbrev pub small : ℕ → Bool
small b = within 97 122 b

abbrev pub letter : ℕ → Bool
letter b = capital b || small b

abbrev pub underscore : ℕ → Bool
underscore b = eqb b 95

-- `0` or `1`; `e` or `E`; `+` or `-`
abbrev pub bit : ℕ → Bool
bit b = within 48 49 b

abbrev pub exponent_mark : ℕ → Bool
exponent_mark b = eqb b 101 || eqb b 69

abbrev pub sign : ℕ → Bool
sign b = eqb b 43 || eqb b 45

-- T8: what a word goes on with
unfoldable pub word_byte : ℕ → Bool
word_byte b = letter b || (digit b || underscore b)

-- (T4)
unfoldable pub space : ℕ → Bool
space b = within 9 13 b || eqb b 32

-- what a string holds (T13)
abbrev pub printable : ℕ → Bool
printable b = within 32 126 b

-- letters without case (T3)
unfoldable pub upper : ℕ → ℕ
upper b = cond (small b) (b - 32) b

unfoldable pub lower : ℕ → ℕ
lower b = cond (capital b) (b + 32) b

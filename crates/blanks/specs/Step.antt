-- What a step of a reader of bytes means, and the classes of bytes (T5, T10, T14).
use Rattle.std.specs.Prelude.{ℕ, Bool, Result, Ok, Err}
use Rattle.express.specs.Tokens.Bytes.{digit}
use Rattle.express.specs.Tokens.Lexis.{Reading, at, refused, in_line, bit}
use Rattle.blanks.specs.declared.Refusal.{Refusal}
use Rattle.blanks.specs.declared.Refusal.TheVariants.{NoToken, TooLarge, TooLong, TokensShort}
use Rattle.blanks.specs.declared.Class.{Class}
use Rattle.blanks.specs.declared.Class.TheVariants.{Digit, Bit, Line}

-- the number of a refusal (T16, T10, T1, R9), and its place
abbrev pub reply_of : Refusal → ℕ
reply_of (NoToken p) = 2
reply_of (TooLarge p) = 3
reply_of (TooLong p) = 1
reply_of (TokensShort p) = 6

abbrev pub place_of : Refusal → ℕ
place_of (NoToken p) = p
place_of (TooLarge p) = p
place_of (TooLong p) = p
place_of (TokensShort p) = p

-- a step's answer: a new place, or the number of the refusal and its place
abbrev pub reading : Result ℕ Refusal → Reading
reading (Ok p) = at p
reading (Err e) = refused (reply_of e) (place_of e)

-- the bytes of a class
abbrev pub member : Class → ℕ → Bool
member Digit = digit
member Bit = bit
member Line = in_line

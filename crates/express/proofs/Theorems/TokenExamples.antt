-- Worked examples of tokens, by computation.
use mathlib.Core.Path.{◌≡◌, refl, ◌∙◌}
use mathlib.Core.Bool.{true, false}
use mathlib.Core.List.{List, [], ◌∷◌, ◌++◌, map}
use Prim.Native.Nat.{ℕ, ◌+◌, ◌*◌}
use Prim.Native.String.{String}
use lib.ListN.{replicate}
use Rattle.express.specs.Tokens.Bytes.{upper, word_byte, space, same}
use Rattle.express.specs.Tokens.Lexis.{TokenRow, Reading, at, refused, end_of_run, end_of_remark, skipped_in, skipped, numeral, unpaired, string_value, too_large}
use Rattle.express.specs.Tokens.Lexis.{quote, end_of_integer, end_of_exponent, end_of_real, end_of_string, end_of_short_string, end_of_binary, lone, size_of_symbol, end_of_symbol, token_kind_at, end_of_token, lexed_in, lexed}
use Rattle.express.specs.Tokens.Terminal.{bytes, the, identifier, END_SCHEMA, CONST_E, instance_unequal, terminal_of, among}
use Rattle.express.proofs.Tokens.Fast.{fast, fast_is, map_same}

reserved_in_any_case : terminal_of 1 (bytes "end_Schema") ≡ the END_SCHEMA
unfolding terminal_of among same upper
reserved_in_any_case = refl

constant_e : terminal_of 1 (bytes "Const_E") ≡ the CONST_E
unfolding terminal_of among same upper
constant_e = refl

not_reserved : terminal_of 1 (bytes "end_Schemas") ≡ the identifier
unfolding terminal_of among same upper
not_reserved = refl

symbol : terminal_of 6 (bytes ":<>:") ≡ the instance_unequal
unfolding terminal_of among same
symbol = refl

-- the empty string, a quote, and a quote between other bytes
values : map (λ (t : String). string_value (bytes t)) ("''" ∷ "''''" ∷ "'it''s'" ∷ []) ≡ map bytes ("" ∷ "'" ∷ "it's" ∷ [])
unfolding unpaired string_value
values = refl

-- a string of n bytes `a`, and one of n quotes, each of them a pair in the token
abbrev letters : ℕ → List ℕ
letters n = quote ∷ replicate n 97 ++ quote ∷ []

abbrev quotes : ℕ → List ℕ
quotes n = replicate (2 * n + 2) quote

-- 255 bytes are within the bound, and 256 are not
bound : map (too_large 4) (letters 255 ∷ letters 256 ∷ quotes 255 ∷ quotes 256 ∷ []) ≡ false ∷ true ∷ false ∷ true ∷ []
unfolding unpaired string_value
bound = refl

abbrev pub row : ℕ → ℕ → ℕ → TokenRow
row k p n = record { kind = k; start = p; size = n }

-- a text, its tokens, and how their reading stops
pub record Example : Type 0 where
  pub text : String
  pub rows : List TokenRow
  pub stop : Reading

abbrev pub reads : String → List TokenRow → Reading → Example
reads t rows e = record { text = t; rows = rows; stop = e }

-- an exponent, and none; a number and a word; a remark after a number; a remark that holds `)`; a string of one quote; the longest symbol; and
-- what is refused: a remark that stays open, at its outermost start; a string that does, though a shorter one is closed; a `%` without a bit; the
-- first integer too large
abbrev pub examples : List Example
examples =
    reads "1.e5" (row 3 0 4 ∷ []) (at 4) ∷
    reads "1.e" (row 3 0 2 ∷ row 1 2 1 ∷ []) (at 3) ∷
    reads "2.5E-3+" (row 3 0 6 ∷ row 6 6 1 ∷ []) (at 7) ∷
    reads "12ab" (row 2 0 2 ∷ row 1 2 2 ∷ []) (at 4) ∷
    reads "12..3" (row 3 0 3 ∷ row 6 3 1 ∷ row 2 4 1 ∷ []) (at 5) ∷
    reads "5--3" (row 2 0 1 ∷ []) (at 4) ∷
    reads "(*)*)x" (row 1 5 1 ∷ []) (at 6) ∷
    reads "''''" (row 4 0 4 ∷ []) (at 4) ∷
    reads "a:=:b:<>:c:=-d" (row 1 0 1 ∷ row 6 1 3 ∷ row 1 4 1 ∷ row 6 5 4 ∷ row 1 9 1 ∷ row 6 10 2 ∷ row 6 12 1 ∷ row 1 13 1 ∷ []) (at 14) ∷
    reads "%010 <*" (row 5 0 4 ∷ row 6 5 2 ∷ []) (at 7) ∷
    reads "x (* (* *) " (row 1 0 1 ∷ []) (refused 2 2) ∷
    reads "a 'b''" (row 1 0 1 ∷ []) (refused 2 2) ∷
    reads "a %" (row 1 0 1 ∷ []) (refused 2 2) ∷
    reads "009223372036854775807 9223372036854775808" (row 2 0 21 ∷ []) (refused 3 22) ∷
    []

by_fast : map (λ (e : Example). fast (bytes e.text)) examples ≡ map (λ (e : Example). record { rows = e.rows; stop = e.stop }) examples
unfolding word_byte space end_of_run end_of_remark skipped_in skipped numeral end_of_integer end_of_exponent end_of_real end_of_string
    unpaired string_value end_of_short_string end_of_binary lone size_of_symbol end_of_symbol token_kind_at end_of_token lexed_in
by_fast = refl

pub edges : map (λ (e : Example). lexed (bytes e.text)) examples ≡ map (λ (e : Example). record { rows = e.rows; stop = e.stop }) examples
edges = map_same _ _ (λ (e : Example). fast_is (bytes e.text)) examples ∙ by_fast

-- The tokens of a text (T1 to T19). Its bytes are a list; a place is an index into it, and past its end the bytes count as 0.
use Rattle.std.specs.Prelude.{ℕ, zero, suc, ◌+◌, ◌-◌, ◌*◌, Bool, true, false, cond, not, ◌&&◌, ◌||◌, List, [], ◌∷◌, map, leb, ltb, eqb, length, take, drop, get_or}
use Rattle.express.specs.Tokens.Bytes as bytes
use Rattle.express.specs.Tokens.Bytes.{token_bytes, within, digit, letter, word_byte, space, printable}
use Rattle.express.specs.Tokens.Token.{longest_size, longest_kind}

-- A step of reading gives a place, or a refusal by its number and place.
pub data Reading : Type 0 where
  at : ℕ → Reading
  refused : ℕ → ℕ → Reading

-- where the bytes of a class end that stand in a row from p on; the list is what is left from there
unfoldable pub end_of_run : (ℕ → Bool) → ℕ → List ℕ → ℕ
end_of_run f p [] = p
end_of_run f p (b ∷ s) = let more = end_of_run f (p + 1) s in cond (f b) more p

abbrev pub run : (ℕ → Bool) → List ℕ → ℕ → ℕ
run f s p = end_of_run f p (drop p s)

-- ---- spaces and remarks

abbrev pub pair : ℕ → ℕ → ℕ → ℕ → Bool
pair x y b c = eqb b x && eqb c y

-- T5, T6: `(*`, `*)` and `--`
abbrev pub opens : ℕ → ℕ → Bool
opens b c = pair 40 42 b c

abbrev pub closes : ℕ → ℕ → Bool
closes b c = pair 42 41 b c

abbrev pub dashes : ℕ → ℕ → Bool
dashes b c = pair 45 45 b c

abbrev pub in_line : ℕ → Bool
in_line b = not (eqb b 10)

-- in block remarks (T6, T7), of which d are open at p, the outermost from o on: two bytes open one more, two close one, and else a byte passes
unfoldable pub end_of_remark : ℕ → ℕ → ℕ → List ℕ → Reading
end_of_remark o d p [] = refused 2 o
end_of_remark o d p (b ∷ []) = refused 2 o
end_of_remark o d p (b ∷ c ∷ s) =
    let deeper = end_of_remark o (d + 1) (p + 2) s in
    let out = end_of_remark o (d - 1) (p + 2) s in
    let on = end_of_remark o d (p + 1) (c ∷ s) in
    cond (opens b c) deeper (cond (closes b c) (cond (eqb d 1) (at (p + 2)) out) on)

abbrev pub reading_then : Reading → (ℕ → Reading) → Reading
reading_then (at q) more = more q
reading_then (refused n o) more = refused n o

-- past the spaces and remarks at p (T4 to T6), in at most so many turns
unfoldable pub skipped_in : ℕ → List ℕ → ℕ → Reading
skipped_in zero s p = refused 0 p
skipped_in (suc f) s p =
    let b = get_or s p 0 in
    let c = get_or s (p + 1) 0 in
    let next = skipped_in f s (p + 1) in
    let line = skipped_in f s (run in_line s (p + 2)) in
    let remark = reading_then (end_of_remark p 1 (p + 2) (drop (p + 2) s)) (λ q. skipped_in f s q) in
    cond (space b) next (cond (dashes b c) line (cond (opens b c) remark (at p)))

-- each turn passes a byte, so one turn more than there are bytes is enough
unfoldable pub skipped : List ℕ → ℕ → Reading
skipped s p = skipped_in (length s + 1) s p

-- ---- numbers

-- T19: the number that digits stand for in a base, after digits that stand for v
unfoldable pub numeral : ℕ → ℕ → List ℕ → ℕ
numeral base v [] = v
numeral base v (b ∷ s) = numeral base (v * base + (b - 48)) s

-- the bound on integers (T10)
abbrev pub greatest : ℕ
greatest = 9223372036854775807

-- ---- strings

abbrev pub quote : ℕ
quote = 39

-- T19: bytes with each pair of quotes made one; `passed` says that the next byte is the second of a pair
unfoldable pub unpaired : Bool → List ℕ → List ℕ
unpaired passed [] = []
unpaired true (b ∷ s) = unpaired false s
unpaired false (b ∷ s) = b ∷ unpaired (eqb b quote) s

-- T19: the value of a string, by the bytes of its token: what stands between the outer quotes, unpaired
unfoldable pub string_value : List ℕ → List ℕ
string_value t = unpaired false (take (length t - 2) (drop 1 t))

-- the bound on the bytes of a string's value (T13)
abbrev pub most_bytes : ℕ
most_bytes = 255

-- ---- tokens

-- a literal of kind k beyond its bound (T10, T13, T14): 63 bits, behind the `%`
abbrev pub too_large : ℕ → List ℕ → Bool
too_large k w =
    cond (eqb k 2) (not (leb (numeral 10 0 w) greatest))
    (cond (eqb k 4) (not (leb (length (string_value w)) most_bytes)) (eqb k 5 && not (leb (length w) 64)))

-- THE TOKEN AT A PLACE (T2): the end of the longest that stands there. Where none does, also because it is unfinished, the refusal is 2 (T16)
unfoldable pub longest_end : List ℕ → ℕ → Reading
longest_end s p =
    let t = drop p s in
    let n = longest_size t in
    cond (eqb n 0) (refused 2 p) (cond (too_large (longest_kind t) (take n t)) (refused 3 p) (at (p + n)))

-- a row of the token table (T18)
pub record TokenRow : Type 0 where
  pub kind : ℕ
  pub start : ℕ
  pub size : ℕ

-- the rows read so far, and how the reading stopped: at the end of the text, or refused (T17)
pub record Lexed : Type 0 where
  pub rows : List TokenRow
  pub stop : Reading

abbrev pub stopped : Reading → Lexed
stopped e = record { rows = []; stop = e }

abbrev pub cons : TokenRow → Lexed → Lexed
cons r l = record { rows = r ∷ l.rows; stop = l.stop }

abbrev pub row_and_rest : ℕ → ℕ → Reading → (ℕ → Lexed) → Lexed
row_and_rest k q (at e) more = cons (record { kind = k; start = q; size = e - q }) (more e)
row_and_rest k q (refused n o) more = stopped (refused n o)

abbrev pub longest_after_blank : List ℕ → Reading → (ℕ → Lexed) → Lexed
longest_after_blank s (at q) more =
    let row = row_and_rest (longest_kind (drop q s)) q (longest_end s q) more in
    cond (ltb q (length s)) row (stopped (at q))
longest_after_blank s (refused n o) more = stopped (refused n o)

-- THE TOKENS from p on, in at most so many turns: blanks, the longest token, and again
unfoldable pub longest_in : ℕ → List ℕ → ℕ → Lexed
longest_in zero s p = stopped (refused 0 p)
longest_in (suc f) s p = longest_after_blank s (skipped s p) (λ q. longest_in f s q)

-- the tokens of a text of any length; each turn passes a byte, so the turns never run out (`lexed_stops` of proofs/tokens/Stops)
abbrev pub lexed_whole : List ℕ → Lexed
lexed_whole s = longest_in (length s + 1) s 0

-- T1: of a text with a limit on its bytes; a longer one is refused by 1
abbrev pub lexed_to : ℕ → List ℕ → Lexed
lexed_to n s = let all = lexed_whole s in cond (leb (length s) n) all (stopped (refused 1 n))

-- (T1)
abbrev pub most : ℕ
most = 65536

-- T1, T2: the tokens of a file
unfoldable pub lexed : List ℕ → Lexed
lexed s = lexed_to most s

-- ---- the columns of the token table (T18, R8)

abbrev pub kinds : Lexed → List ℕ
kinds l = map (λ r. r.kind) l.rows

abbrev pub starts : Lexed → List ℕ
starts l = map (λ r. r.start) l.rows

abbrev pub sizes : Lexed → List ℕ
sizes l = map (λ r. r.size) l.rows

-- the number of tokens, or the first refusal: 6 where the table is too short, with the number of tokens
abbrev pub counted : Reading → ℕ → ℕ → Reading
counted (at q) n room = cond (leb n room) (at n) (refused 6 n)
counted (refused k o) n room = refused k o

unfoldable pub tokens : Lexed → ℕ → Reading
tokens l room = counted l.stop (length l.rows) room

-- ---- T19: the values of literals, by the bytes of their tokens

unfoldable pub integer_value : List ℕ → ℕ
integer_value t = numeral 10 0 t

-- the bits of a binary, the leftmost first, `true` for 1; and the number that they stand for
unfoldable pub binary_bits : List ℕ → List Bool
binary_bits t = map (λ b. eqb b 49) (drop 1 t)

unfoldable pub binary_value : List ℕ → ℕ
binary_value t = numeral 2 0 (drop 1 t)

-- ---- THE FAST READING of the same, by the byte with which a token begins (`token_is_longest` and `lexed_fast` of proofs/tokens)

-- numbers

-- T10: the end of the digits at p
unfoldable pub end_of_integer : List ℕ → ℕ → Reading
end_of_integer s p =
    let e = run digit s p in
    cond (leb (numeral 10 0 (token_bytes s p (e - p))) greatest) (at e) (refused 3 p)

abbrev pub either : ℕ → ℕ → ℕ → Bool
either x y b = eqb b x || eqb b y

-- T12: `e` or `E`; `+` or `-`
abbrev pub exponent_mark : ℕ → Bool
exponent_mark b = bytes.exponent_mark b

abbrev pub sign : ℕ → Bool
sign b = bytes.sign b

-- where the digits of an exponent begin, whose `e` is at p
abbrev pub digits_of_exponent : List ℕ → ℕ → ℕ
digits_of_exponent s p = cond (sign (get_or s (p + 1) 0)) (p + 2) (p + 1)

-- the end of the exponent at p, which is p if there is none (T12)
unfoldable pub end_of_exponent : List ℕ → ℕ → ℕ
end_of_exponent s p =
    let g = digits_of_exponent s p in
    cond (exponent_mark (get_or s p 0) && digit (get_or s g 0)) (run digit s g) p

-- (T11)
unfoldable pub end_of_real : List ℕ → ℕ → ℕ
end_of_real s p = end_of_exponent s (run digit s (run digit s p + 1))

-- strings and binaries

-- in the string that starts at o; just after a quote, or not (T13)
unfoldable pub end_of_string : ℕ → Bool → ℕ → List ℕ → Reading
end_of_string o true p [] = at p
end_of_string o false p [] = refused 2 o
end_of_string o true p (b ∷ s) = let on = end_of_string o false (p + 1) s in cond (eqb b 39) on (at p)
end_of_string o false p (b ∷ s) =
    let quote = end_of_string o true (p + 1) s in
    let on = end_of_string o false (p + 1) s in
    cond (eqb b 39) quote (cond (printable b) on (refused 2 o))

-- T13: the end of the string at p, whose value is within the bound
unfoldable pub end_of_short_string : List ℕ → ℕ → Reading
end_of_short_string s p =
    reading_then (end_of_string p false (p + 1) (drop (p + 1) s))
    (λ e. cond (leb (length (string_value (token_bytes s p (e - p)))) most_bytes) (at e) (refused 3 p))

abbrev pub bit : ℕ → Bool
bit b = bytes.bit b

-- (T14)
unfoldable pub end_of_binary : List ℕ → ℕ → Reading
end_of_binary s p =
    let e = run bit s (p + 1) in
    let n = e - (p + 1) in
    cond (eqb n 0) (refused 2 p) (cond (leb n 63) (at e) (refused 3 p))

-- symbols

-- T15: `?`, `( )`, `+ , - . /`, `;`, `=`, `[ \ ]`, `{` and `}`, which begin no longer symbol
unfoldable pub lone : ℕ → Bool
lone b =
    eqb b 63 || (within 40 41 b || (within 43 47 b || (eqb b 59 || (eqb b 61 || (within 91 93 b || (eqb b 123 || eqb b 125))))))

-- how many of four bytes are a symbol, as many as can be; 0: none is
unfoldable pub size_of_symbol : ℕ → ℕ → ℕ → ℕ → ℕ
size_of_symbol b c d e =
    cond (lone b) 1
    (cond (eqb b 58) (cond (eqb c 61) (cond (eqb d 58) 3 2) (cond (pair 60 62 c d && eqb e 58) 4 1))
    (cond (eqb b 60) (cond (eqb c 61 || either 62 42 c) 2 1)
    (cond (eqb b 62) (cond (eqb c 61) 2 1)
    (cond (eqb b 42) (cond (eqb c 42) 2 1)
    (cond (eqb b 124) (cond (eqb c 124) 2 1) 0)))))

-- T16: what is no symbol either begins no token
unfoldable pub end_of_symbol : List ℕ → ℕ → Reading
end_of_symbol s p =
    let n = size_of_symbol (get_or s p 0) (get_or s (p + 1) 0) (get_or s (p + 2) 0) (get_or s (p + 3) 0) in
    cond (eqb n 0) (refused 2 p) (at (p + n))

-- tokens

-- its kind, by the byte at p; a number is real if a point ends its digits
unfoldable pub token_kind_at : List ℕ → ℕ → ℕ
token_kind_at s p =
    let b = get_or s p 0 in
    let number : ℕ = cond (eqb (get_or s (run digit s p) 0) 46) 3 2 in
    cond (letter b) 1 (cond (digit b) number (cond (eqb b 39) 4 (cond (eqb b 37) 5 6)))

-- the end of the token of a kind at p, by the rule of its kind (T8, T10, T11, T13, T14, T15)
unfoldable pub end_of_token : List ℕ → ℕ → ℕ → Reading
end_of_token s p k =
    cond (eqb k 1) (at (run word_byte s p))
    (cond (eqb k 2) (end_of_integer s p)
    (cond (eqb k 3) (at (end_of_real s p))
    (cond (eqb k 4) (end_of_short_string s p)
    (cond (eqb k 5) (end_of_binary s p)
    (end_of_symbol s p)))))

abbrev pub token_after_blank : List ℕ → Reading → (ℕ → Lexed) → Lexed
token_after_blank s (at q) more =
    let k = token_kind_at s q in
    let row = row_and_rest k q (end_of_token s q k) more in
    cond (ltb q (length s)) row (stopped (at q))
token_after_blank s (refused n o) more = stopped (refused n o)

unfoldable pub lexed_in : ℕ → List ℕ → ℕ → Lexed
lexed_in zero s p = stopped (refused 0 p)
lexed_in (suc f) s p = token_after_blank s (skipped s p) (λ q. lexed_in f s q)

-- What the tokens of a text are, row by row: each lies in the text, behind the one before it, and is what its kind reads there; so literals are in
-- their bounds.
use mathlib.Core.Path.{◌≡◌, refl, sym, ap, ◌∙◌, subst}
use mathlib.Core.Bool.{Bool, true, false, cond}
use mathlib.Core.List.{List, [], ◌∷◌, map}
use Prim.Native.Nat.{ℕ, zero, suc, ◌+◌, ◌-◌, ◌*◌, ◌≤◌, ◌<◌, ◌^◌}
use native.Mathlib.Omega.{arith}
use native.Mathlib.Nat.{not-suc-le-zero, le_of_suc-le-suc, add-mul, mul_assoc, pow-succ'}
use lib.ListN.{length, drop, get_or, length-take, length-drop, length-map}
use lib.Seq.{get_or-drop, get_or-take}
use lib.Dec.{eqb, leb, ltb}
use borrow.Author.Tests.{ltb-true, leb-true, eqb-true, eqb-false}
use Rattle.express.specs.Semantics.Bits as Bits
use Rattle.express.specs.Semantics.Bits.{number}
use Rattle.express.specs.Tokens.Bytes.{token_bytes, digit, within}
use Rattle.express.specs.Tokens.Lexis.{Reading, at, refused, end_of_run, run, bit, reading_then, skipped, end_of_integer, end_of_string, end_of_short_string, end_of_binary}
use Rattle.express.specs.Tokens.Lexis.{numeral, integer_value, binary_bits, binary_value, string_value, most_bytes}
use Rattle.express.specs.Tokens.Lexis.{token_kind_at, end_of_token, TokenRow, Lexed, stopped, token_after_blank, row_and_rest, lexed_in, lexed, kinds, starts, sizes}
use Rattle.express.specs.Tokens.Scanned.{row_bytes, row_terminals}
use Rattle.express.specs.Tokens.Terminal as columns
use Rattle.express.specs.Tokens.Terminal.{terminal_of}
use Rattle.relations.proofs.Select.{and_snd}
use Rattle.express.proofs.Tokens.Fast.{fast_is}
use Rattle.express.proofs.Tokens.Places.{inside_at, skip_inside, token_inside}

-- a row is the token that its kind reads at its start
pub record Token (s : List ℕ) (r : TokenRow) : Type 0 where
  pub some : 0 < r.size
  pub inside : r.start + r.size ≤ length s
  pub kind : r.kind ≡ token_kind_at s r.start
  pub ends : end_of_token s r.start r.kind ≡ at (r.start + r.size)

abbrev pub no_row : TokenRow
no_row = record { kind = 0; start = 0; size = 0 }

abbrev pub row_at : List TokenRow → ℕ → TokenRow
row_at rs i = get_or rs i no_row

-- rows from p on, each after the one before it
pub record Tokens (s : List ℕ) (p : ℕ) (rs : List TokenRow) : Type 0 where
  pub few : p + length rs ≤ length s
  pub token : (i : ℕ) → i < length rs → Token s (row_at rs i)
  pub after : (i : ℕ) → i < length rs → p ≤ (row_at rs i).start
  pub rise : (i j : ℕ) → i < j → j < length rs → (row_at rs i).start + (row_at rs i).size ≤ (row_at rs j).start

no_rows : (s : List ℕ) (p : ℕ) → p ≤ length s → Tokens s p []
no_rows s p h = record { few = omega (arith, h); token = λ i l. absurd (not-suc-le-zero l); after = λ i l. absurd (not-suc-le-zero l); rise = λ i j k l. absurd (not-suc-le-zero l) }

module _ (s : List ℕ) (p e : ℕ) (r : TokenRow) (low : p ≤ r.start) (ends : r.start + r.size ≡ e) (t : Token s r) (rs : List TokenRow) (more : Tokens s e rs) where
  one_row : Tokens s p (r ∷ rs)
  one_row = record { few = omega (arith, low, ends, t.some, more.few); token = token_at; after = after_at; rise = rise_at }
    where
      token_at : (i : ℕ) → i < length (r ∷ rs) → Token s (row_at (r ∷ rs) i)
      token_at zero h = t
      token_at (suc i) h = more.token i (le_of_suc-le-suc h)

      after_at : (i : ℕ) → i < length (r ∷ rs) → p ≤ (row_at (r ∷ rs) i).start
      after_at zero h = low
      after_at (suc i) h = omega (arith, low, ends, more.after i (le_of_suc-le-suc h))

      rise_at : (i j : ℕ) → i < j → j < length (r ∷ rs) → (row_at (r ∷ rs) i).start + (row_at (r ∷ rs) i).size ≤ (row_at (r ∷ rs) j).start
      rise_at i zero k h = absurd (not-suc-le-zero k)
      rise_at zero (suc j) k h = omega (arith, ends, more.after j (le_of_suc-le-suc h))
      rise_at (suc i) (suc j) k h = more.rise i j (le_of_suc-le-suc k) (le_of_suc-le-suc h)

module _ (s : List ℕ) (p : ℕ) (h : p ≤ length s) (more : ℕ → Lexed) (rest : (e : ℕ) → e ≤ length s → Tokens s e (more e).rows) where
  after_token : (q : ℕ) → p ≤ q → q < length s → (r : Reading) → end_of_token s q (token_kind_at s q) ≡ r → Tokens s p (row_and_rest (token_kind_at s q) q r more).rows
  after_token q low l (refused n o) is = no_rows s p h
  after_token q low l (at e) is =
      let i = inside_at is (token_inside s q l) in
      let there : q + (e - q) ≡ e = omega (arith, i.0) in
      one_row s p e (record { kind = token_kind_at s q; start = q; size = e - q }) low there
      (record { some = omega (arith, i.0); inside = omega (arith, there, i.1); kind = refl; ends = is ∙ ap at (sym there) })
      (more e).rows (rest e i.1)

  after_skip : (r : Reading) → skipped s p ≡ r → Tokens s p (token_after_blank s r more).rows
  after_skip (refused n o) is = no_rows s p h
  after_skip (at q) is = go (ltb q (length s)) refl
    where
      go : (t : Bool) → ltb q (length s) ≡ t → Tokens s p (cond t (row_and_rest (token_kind_at s q) q (end_of_token s q (token_kind_at s q)) more) (stopped (at q))).rows
      go true e = after_token q (inside_at is (skip_inside s p h)).0 (ltb-true q (length s) e) (end_of_token s q (token_kind_at s q)) refl
      go false e = no_rows s p h

tokens_in : (f : ℕ) (s : List ℕ) (p : ℕ) → p ≤ length s → Tokens s p (lexed_in f s p).rows
unfolding lexed_in
tokens_in zero s p h = no_rows s p h
tokens_in (suc f) s p h = after_skip s p h (λ q. lexed_in f s q) (λ e k. tokens_in f s e k) (skipped s p) refl

-- the tokens of a text
pub tokens_of : (s : List ℕ) → Tokens s 0 (lexed s).rows
tokens_of s = rw (fast_is s) (go (leb (length s) 65536))
  where
    go : (t : Bool) → Tokens s 0 (cond t (lexed_in (length s + 1) s 0) (stopped (refused 1 65536))).rows
    go true = tokens_in (length s + 1) s 0 (omega arith)
    go false = no_rows s 0 (omega arith)

-- the terminals by columns are those by rows
by_rows : (s : List ℕ) (rs : List TokenRow) → columns.terminals s (map (λ r. r.kind) rs) (map (λ r. r.start) rs) (map (λ r. r.size) rs) ≡ map (λ r. terminal_of r.kind (row_bytes s r)) rs
unfolding columns.terminals
by_rows s [] = refl
by_rows s (r ∷ rs) = ap (λ (ts : List ℕ). terminal_of r.kind (row_bytes s r) ∷ ts) (by_rows s rs)

pub terminals_by_rows : (s : List ℕ) (l : Lexed) → columns.terminals s (kinds l) (starts l) (sizes l) ≡ row_terminals s l
terminals_by_rows s l = by_rows s l.rows

-- ---- literals

abbrev place_of : Reading → ℕ
place_of (at q) = q
place_of (refused n o) = 0

abbrev IsAt : Reading → Type 0
IsAt (at q) = Unit {0}
IsAt (refused n o) = ⊥

refused_at : {n o q : ℕ} → refused n o ≡ at q → ⊥
refused_at e = subst IsAt (sym e) tt

module _ (s : List ℕ) (r : TokenRow) (t : Token s r) where
  -- an integer is within its bound (T10)
  pub integer_small : r.kind ≡ 2 → integer_value (row_bytes s r) < 2 ^ 63
  unfolding end_of_token end_of_integer integer_value
  integer_small e = go (leb (integer_value (token_bytes s r.start (run digit s r.start - r.start))) 9223372036854775807) refl (rw e at t).ends
    where
      go : (b : Bool) → leb (integer_value (token_bytes s r.start (run digit s r.start - r.start))) 9223372036854775807 ≡ b →
          cond b (at (run digit s r.start)) (refused 3 r.start) ≡ at (r.start + r.size) → integer_value (row_bytes s r) < 2 ^ 63
      go true l is =
          let size : run digit s r.start - r.start ≡ r.size = omega (arith, ap place_of is) in
          let small : integer_value (token_bytes s r.start (run digit s r.start - r.start)) ≤ 9223372036854775807 = leb-true _ _ l in
          let there : integer_value (row_bytes s r) ≤ 9223372036854775807 = rw size at small in
          omega (arith, there)
      go false l is = absurd (refused_at is)

  -- the value of a string is within its bound (T13)
  pub string_few : r.kind ≡ 4 → length (string_value (row_bytes s r)) ≤ most_bytes
  unfolding end_of_token end_of_short_string
  string_few e = after (end_of_string r.start false (r.start + 1) (drop (r.start + 1) s)) (rw e at t).ends
    where
      value_to : ℕ → List ℕ
      value_to q = string_value (token_bytes s r.start (q - r.start))

      go : (q : ℕ) (b : Bool) → leb (length (value_to q)) most_bytes ≡ b → cond b (at q) (refused 3 r.start) ≡ at (r.start + r.size) → length (string_value (row_bytes s r)) ≤ most_bytes
      go q true l is =
          let size : q - r.start ≡ r.size = omega (arith, ap place_of is) in
          let few : length (value_to q) ≤ most_bytes = leb-true _ _ l in
          rw size at few
      go q false l is = absurd (refused_at is)

      after : (x : Reading) → reading_then x (λ q. cond (leb (length (value_to q)) most_bytes) (at q) (refused 3 r.start)) ≡ at (r.start + r.size) →
          length (string_value (row_bytes s r)) ≤ most_bytes
      after (at q) is = go q (leb (length (value_to q)) most_bytes) refl is
      after (refused n o) is = absurd (refused_at is)

  length_bits : length (binary_bits (row_bytes s r)) ≡ r.size - 1
  unfolding binary_bits
  length_bits = omega (arith, length-map (drop 1 (row_bytes s r)) (λ b. eqb b 49), length-drop 1 (row_bytes s r), length-take r.size (drop r.start s), length-drop r.start s, t.inside)

  -- a binary ends behind its bits, of which there are 1 to 63
  pub binary_ends : r.kind ≡ 5 → (r.start + r.size ≡ run bit s (r.start + 1)) × (2 ≤ r.size) × (r.size ≤ 64)
  unfolding end_of_token end_of_binary
  binary_ends e = go (eqb (run bit s (r.start + 1) - (r.start + 1)) 0) (leb (run bit s (r.start + 1) - (r.start + 1)) 63) refl refl (rw e at t).ends
    where
      go : (b c : Bool) → eqb (run bit s (r.start + 1) - (r.start + 1)) 0 ≡ b → leb (run bit s (r.start + 1) - (r.start + 1)) 63 ≡ c →
          cond b (refused 2 r.start) (cond c (at (run bit s (r.start + 1))) (refused 3 r.start)) ≡ at (r.start + r.size) →
          (r.start + r.size ≡ run bit s (r.start + 1)) × (2 ≤ r.size) × (r.size ≤ 64)
      go true c b_is c_is is = absurd (refused_at is)
      go false false b_is c_is is = absurd (refused_at is)
      go false true b_is c_is is =
          let ends : run bit s (r.start + 1) ≡ r.start + r.size = ap place_of is in
          let some : run bit s (r.start + 1) - (r.start + 1) ≡ 0 → ⊥ = eqb-false _ _ b_is in
          let few : run bit s (r.start + 1) - (r.start + 1) ≤ 63 = leb-true _ _ c_is in
          (sym ends, omega (arith, ends, some), omega (arith, ends, few))

  -- a binary has 1 to 63 bits (T14)
  pub binary_some : r.kind ≡ 5 → 1 ≤ length (binary_bits (row_bytes s r))
  binary_some e = omega (arith, length_bits, (binary_ends e).1)

  pub binary_few : r.kind ≡ 5 → length (binary_bits (row_bytes s r)) ≤ 63
  binary_few e = omega (arith, length_bits, (binary_ends e).2)

-- ---- the number that the bits of a binary stand for

module _ (f : ℕ → Bool) (p b : ℕ) (t : List ℕ) (more : (i : ℕ) → p + 1 + i < end_of_run f (p + 1) t → f (get_or t i 0) ≡ true) where
  turn : (i : ℕ) (c : Bool) → f b ≡ c → p + i < cond c (end_of_run f (p + 1) t) p → f (get_or (b ∷ t) i 0) ≡ true
  turn i false e l = absurd (omega (arith, l))
  turn zero true e l = e
  turn (suc i) true e l = more i (omega (arith, l))

-- each byte of a run is of its class
pub run_holds : (f : ℕ → Bool) (p : ℕ) (t : List ℕ) (i : ℕ) → p + i < end_of_run f p t → f (get_or t i 0) ≡ true
unfolding end_of_run
run_holds f p [] i h = absurd (omega (arith, h))
run_holds f p (b ∷ t) i h = turn f p b t (λ j l. run_holds f (p + 1) t j l) i (f b) refl h

bit_value : (b : ℕ) → within 48 49 b ≡ true → b - 48 ≡ Bits.bit (eqb b 49)
bit_value b e = go (eqb b 49) refl
  where
    go : (t : Bool) → eqb b 49 ≡ t → b - 48 ≡ Bits.bit t
    go true q = omega (arith, eqb-true b 49 q)
    go false q =
        let other : b ≡ 49 → ⊥ = eqb-false b 49 q in
        let high : b ≤ 49 = leb-true b 49 (and_snd (leb 48 b) (leb b 49) e) in
        omega (arith, other, high)

-- bits read from the left, after a number v
horner : (v : ℕ) (t : List ℕ) → ((i : ℕ) → i < length t → within 48 49 (get_or t i 0) ≡ true) → numeral 2 v t ≡ v * 2 ^ length t + number (map (λ b. eqb b 49) t)
unfolding numeral number
horner v [] h = omega arith
horner v (b ∷ t) h =
    let size : length (map (λ c. eqb c 49) t) ≡ length t = length-map t (λ c. eqb c 49) in
    let d : b - 48 ≡ Bits.bit (eqb b 49) = bit_value b (h 0 (omega arith)) in
    let rest : numeral 2 (v * 2 + (b - 48)) t ≡ (v * 2 + (b - 48)) * 2 ^ length t + number (map (λ c. eqb c 49) t) = horner (v * 2 + (b - 48)) t (λ i l. h (suc i) (omega (arith, l))) in
    let spread : (v * 2 + (b - 48)) * 2 ^ length t ≡ v * 2 ^ suc (length t) + (b - 48) * 2 ^ length t = add-mul (v * 2) (b - 48) (2 ^ length t) ∙
    ap (λ (x : ℕ). x + (b - 48) * 2 ^ length t) (mul_assoc v 2 (2 ^ length t) ∙ ap (λ (x : ℕ). v * x) (sym (pow-succ' 2 (length t)))) in
    rw (size, ← d) (omega (arith, rest, spread))

module _ (s : List ℕ) (r : TokenRow) (t : Token s r) (e : r.kind ≡ 5) where
  abbrev digits : List ℕ
  digits = drop 1 (row_bytes s r)

  length_digits : length digits ≡ r.size - 1
  length_digits = omega (arith, length-drop 1 (row_bytes s r), length-take r.size (drop r.start s), length-drop r.start s, t.inside)

  each_bit : (i : ℕ) → i < length digits → within 48 49 (get_or digits i 0) ≡ true
  each_bit i h =
      let less : 1 + i < r.size = omega (arith, h, length_digits) in
      let here : get_or digits i 0 ≡ get_or s (r.start + (1 + i)) 0 = get_or-drop 1 (row_bytes s r) i 0 ∙ get_or-take r.size (drop r.start s) (1 + i) 0 less ∙ get_or-drop r.start s (1 + i) 0 in
      let there : get_or (drop (r.start + 1) s) i 0 ≡ get_or s (r.start + 1 + i) 0 = get_or-drop (r.start + 1) s i 0 in
      let same : r.start + (1 + i) ≡ r.start + 1 + i = omega arith in
      let holds : within 48 49 (get_or (drop (r.start + 1) s) i 0) ≡ true = run_holds (within 48 49) (r.start + 1) (drop (r.start + 1) s) i (omega (arith, less, (binary_ends s r t e).0)) in
      rw (here, same, ← there) holds

  -- what is read of a binary is its bits' number
  pub binary_number : binary_value (row_bytes s r) ≡ number (binary_bits (row_bytes s r))
  unfolding binary_value binary_bits
  binary_number = horner 0 digits each_bit ∙ omega arith

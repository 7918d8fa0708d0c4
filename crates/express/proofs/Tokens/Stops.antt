-- Where the reading of tokens stops: at the end of the bytes, or by 1, 2 or 3; and what lies between its rows is blank.
use mathlib.Core.Path.{◌≡◌, refl, sym, subst}
use mathlib.Core.Bool.{Bool, true, false, cond}
use mathlib.Core.List.{List, [], ◌∷◌}
use Prim.Native.Nat.{ℕ, zero, suc, ◌+◌, ◌-◌, ◌≤◌, ◌<◌}
use native.Mathlib.Omega.{arith}
use native.Mathlib.Numerals.{add-one}
use lib.ListN.{length, drop, get_or}
use lib.Dec.{eqb, leb, ltb}
use borrow.Author.Tests.{ltb-true, ltb-false, leb-false, le-leb, ne_eqb}
use Rattle.express.specs.Tokens.Bytes.{token_bytes, digit, space, printable}
use Rattle.express.specs.Tokens.Blank.{Line, text_ends, line_ends, line_goes, Remark, outside, opened, closed, passed, Blank, nothing, a_space, a_line, a_remark, Gaps, last_gap, gap}
use Rattle.express.specs.Tokens.Blank.{Stop, all_read, unfinished, too_large, too_long, stop_place}
use Rattle.express.specs.Tokens.Lexis.{Reading, at, refused, end_of_run, run, opens, closes, dashes, in_line, end_of_remark, reading_then, skipped_in, skipped, numeral, greatest}
use Rattle.express.specs.Tokens.Lexis.{string_value, most_bytes, end_of_integer, end_of_string, end_of_short_string, bit, end_of_binary, size_of_symbol, end_of_symbol, token_kind_at}
use Rattle.express.specs.Tokens.Lexis.{end_of_token, Lexed, stopped, row_and_rest}
use Rattle.express.specs.Tokens.Lexis.{token_after_blank, lexed_in, lexed_whole, most, lexed}
use Rattle.express.proofs.Tokens.Fast.{whole_fast}
use Rattle.express.proofs.Tokens.Places.{tail, two_off, one_cut, two_cut, in_text, pair_in, run_low, run_high, inside_at, remark_inside, skip_inside, token_inside}

-- ---- spaces and remarks

line_of : (s : List ℕ) (p : ℕ) (t : List ℕ) → drop p s ≡ t → Line t (drop (end_of_run in_line p t) s)
unfolding end_of_run
line_of s p [] e = rw e text_ends
line_of s p (b ∷ t) e = by (in_line b) refl (line_of s (p + 1) t (tail s p b t e))
  where
    by : (x : Bool) → in_line b ≡ x → Line t (drop (end_of_run in_line (p + 1) t) s) → Line (b ∷ t) (drop (cond x (end_of_run in_line (p + 1) t) p) s)
    by true i more = line_goes i more
    by false i more = rw e (line_ends i)

pub blank_then : {t u v : List ℕ} → Blank t u → Blank u v → Blank t v
blank_then nothing y = y
blank_then (a_space e x) y = a_space e (blank_then x y)
blank_then (a_line e l x) y = a_line e l (blank_then x y)
blank_then (a_remark e r x) y = a_remark e r (blank_then x y)

-- what the reading of a remark comes to: it is closed, or unfinished from its start on
data Closes (s : List ℕ) (o d : ℕ) (t : List ℕ) : Reading → Type 0 where
  closes_at : {q : ℕ} → Remark d t (drop q s) → Closes s o d t (at q)
  stays_open : Closes s o d t (refused 2 o)

module _ (s : List ℕ) (o : ℕ) where
  wider : {d e : ℕ} {t u : List ℕ} {r : Reading} → ((q : ℕ) → Remark d t (drop q s) → Remark e u (drop q s)) → Closes s o d t r → Closes s o e u r
  wider f (closes_at {q} x) = closes_at (f q x)
  wider f stays_open = stays_open

  remark_of : (d p : ℕ) (t : List ℕ) → drop p s ≡ t → Closes s o (suc d) t (end_of_remark o (suc d) p t)
  unfolding end_of_remark
  remark_of d p [] e = stays_open
  remark_of d p (b ∷ []) e = stays_open
  remark_of d p (b ∷ c ∷ t) e =
      by d (opens b c) (closes b c) refl refl
      (rw (sym (add-one (suc d))) at (remark_of (suc d) (p + 2) t (two_off s p b c t e)))
      (λ k. remark_of k (p + 2) t (two_off s p b c t e))
      (remark_of d (p + 1) (c ∷ t) (tail s p b (c ∷ t) e))
    where
      by : (d : ℕ) (x y : Bool) → opens b c ≡ x → closes b c ≡ y →
          Closes s o (suc d + 1) t (end_of_remark o (suc d + 1) (p + 2) t) → ((k : ℕ) → Closes s o (suc k) t (end_of_remark o (suc k) (p + 2) t)) →
          Closes s o (suc d) (c ∷ t) (end_of_remark o (suc d) (p + 1) (c ∷ t)) →
          Closes s o (suc d) (b ∷ c ∷ t)
          (cond x (end_of_remark o (suc d + 1) (p + 2) t)
          (cond y (cond (eqb (suc d) 1) (at (p + 2)) (end_of_remark o (suc d - 1) (p + 2) t)) (end_of_remark o (suc d) (p + 1) (c ∷ t))))
      by d true y i j deeper out on = wider (λ q x. opened i (rw (add-one (suc d)) at x)) deeper
      by zero false true i j deeper out on = let x : Remark 0 t (drop (p + 2) s) = rw (two_off s p b c t e) outside in closes_at {q = p + 2} (closed j x)
      by (suc d) false true i j deeper out on =
          let u : eqb (suc (suc d)) 1 ≡ false = ne_eqb (suc (suc d)) 1 (λ (q : suc (suc d) ≡ 1). omega arith) in
          let m : suc (suc d) - 1 ≡ suc d = omega arith in
          rw (u, m) (wider (λ q x. closed j x) (out d))
      by d false false i j deeper out on = wider (λ q x. passed i j x) on

-- what the reading of blanks comes to: a place behind them, or a remark that is not closed
pub data Skips (s : List ℕ) (p : ℕ) : Reading → Type 0 where
  skips_to : {q : ℕ} → Blank (drop p s) (drop q s) → Skips s p (at q)
  unclosed : {o : ℕ} → o < length s → Blank (drop p s) (drop o s) → Skips s p (refused 2 o)

module _ (s : List ℕ) where
  skips_then : {p q : ℕ} {r : Reading} → Blank (drop p s) (drop q s) → Skips s q r → Skips s p r
  skips_then x (skips_to y) = skips_to (blank_then x y)
  skips_then x (unclosed l y) = unclosed l (blank_then x y)

  module _ (f p : ℕ) (h : p ≤ length s) (enough : length s - p ≤ f) (more : (q : ℕ) → q ≤ length s → length s - q < f → Skips s q (skipped_in f s q)) where
    abbrev b : ℕ
    b = get_or s p 0

    abbrev c : ℕ
    c = get_or s (p + 1) 0

    after_remark : opens b c ≡ true → (r : Reading) → end_of_remark p 1 (p + 2) (drop (p + 2) s) ≡ r → Closes s p 1 (drop (p + 2) s) r → Skips s p (reading_then r (λ q. skipped_in f s q))
    after_remark e (at q) is (closes_at x) =
        let k = pair_in 40 42 b s (p + 1) refl e in
        let i = inside_at is (remark_inside p 1 (p + 2) s (omega arith)) in
        skips_then (rw (two_cut s p k) (a_remark e x nothing)) (more q i.1 (omega (arith, i.0)))
    after_remark e _ is stays_open = unclosed {o = p} (omega (arith, pair_in 40 42 b s (p + 1) refl e)) nothing

    skip_turn : (x y z : Bool) → space b ≡ x → dashes b c ≡ y → opens b c ≡ z →
        Skips s p (cond x (skipped_in f s (p + 1)) (cond y (skipped_in f s (run in_line s (p + 2)))
        (cond z (reading_then (end_of_remark p 1 (p + 2) (drop (p + 2) s)) (λ q. skipped_in f s q)) (at p))))
    unfolding space
    skip_turn true y z i j k =
        let l = in_text space refl s p i in
        skips_then (rw (one_cut s p l) (a_space i nothing)) (more (p + 1) (omega arith) (omega arith))
    skip_turn false true z i j k =
        let l = pair_in 45 45 b s (p + 1) refl j in
        let low = run_low in_line s (p + 2) in
        skips_then (rw (two_cut s p l) (a_line j (line_of s (p + 2) (drop (p + 2) s) refl) nothing))
        (more (run in_line s (p + 2)) (run_high in_line s (p + 2) (omega arith)) (omega arith))
    skip_turn false false true i j k = after_remark k (end_of_remark p 1 (p + 2) (drop (p + 2) s)) refl (remark_of s p 0 (p + 2) (drop (p + 2) s) refl)
    skip_turn false false false i j k = skips_to nothing

  skips_in : (f p : ℕ) → p ≤ length s → length s - p < f → Skips s p (skipped_in f s p)
  unfolding skipped_in
  skips_in zero p h enough = absurd (omega arith)
  skips_in (suc f) p h enough = skip_turn f p h (omega arith) (λ q l n. skips_in f q l n) (space (get_or s p 0)) (dashes (get_or s p 0) (get_or s (p + 1) 0)) (opens
      (get_or s p 0) (get_or s (p + 1) 0)) refl refl refl

  -- blanks are read to their end, or refused by 2: the turns never run out
  pub skips : (p : ℕ) → p ≤ length s → Skips s p (skipped s p)
  unfolding skipped
  skips p h = skips_in (length s + 1) p h (omega arith)

-- ---- tokens

-- what the reading of a token at p comes to
pub data Ends (p : ℕ) : Reading → Type 0 where
  ends_at : {q : ℕ} → Ends p (at q)
  not_ended : Ends p (refused 2 p)
  ends_large : Ends p (refused 3 p)

ends_cond : {p : ℕ} (t : Bool) {a b : Reading} → Ends p a → Ends p b → Ends p (cond t a b)
ends_cond true a b = a
ends_cond false a b = b

string_ends : (o : ℕ) (q : Bool) (p : ℕ) (t : List ℕ) → Ends o (end_of_string o q p t)
unfolding end_of_string
string_ends o true p [] = ends_at
string_ends o false p [] = not_ended
string_ends o true p (b ∷ t) = ends_cond (eqb b 39) (string_ends o false (p + 1) t) ends_at
string_ends o false p (b ∷ t) = ends_cond (eqb b 39) (string_ends o true (p + 1) t) (ends_cond (printable b) (string_ends o false (p + 1) t) not_ended)

ends_then : {p : ℕ} {r : Reading} (more : ℕ → Reading) → Ends p r → ((q : ℕ) → Ends p (more q)) → Ends p (reading_then r more)
ends_then more (ends_at {q}) h = h q
ends_then more not_ended h = not_ended
ends_then more ends_large h = ends_large

short_string_ends : (s : List ℕ) (p : ℕ) → Ends p (end_of_short_string s p)
unfolding end_of_short_string
short_string_ends s p =
    ends_then (λ e. cond (leb (length (string_value (token_bytes s p (e - p)))) most_bytes) (at e) (refused 3 p)) (string_ends p false (p + 1) (drop (p + 1) s))
    (λ e. ends_cond (leb (length (string_value (token_bytes s p (e - p)))) most_bytes) ends_at ends_large)

pub token_ends : (s : List ℕ) (p k : ℕ) → Ends p (end_of_token s p k)
unfolding end_of_token end_of_integer end_of_binary end_of_symbol
token_ends s p k =
    let e = run bit s (p + 1) in
    let n = size_of_symbol (get_or s p 0) (get_or s (p + 1) 0) (get_or s (p + 2) 0) (get_or s (p + 3) 0) in
    ends_cond (eqb k 1) ends_at
    (ends_cond (eqb k 2) (ends_cond (leb (numeral 10 0 (token_bytes s p (run digit s p - p))) greatest) ends_at ends_large)
    (ends_cond (eqb k 3) ends_at
    (ends_cond (eqb k 4) (short_string_ends s p)
    (ends_cond (eqb k 5) (ends_cond (eqb (e - (p + 1)) 0) not_ended (ends_cond (leb (e - (p + 1)) 63) ends_at ends_large))
    (ends_cond (eqb n 0) not_ended ends_at)))))

-- ---- the whole

-- what the reading from p on comes to
record Reads (s : List ℕ) (p : ℕ) (l : Lexed) : Type 0 where
  stop : Stop s l.stop
  gaps : Gaps s p l.rows (stop_place l.stop)

module _ (s : List ℕ) (p : ℕ) (h : p ≤ length s) (more : ℕ → Lexed) (rest : (e : ℕ) → p < e → e ≤ length s → Reads s e (more e)) where
  after_token : (q k : ℕ) → p ≤ q → q < length s → Blank (drop p s) (drop q s) → (r : Reading) → end_of_token s q (token_kind_at s q) ≡ r → Ends q r → Reads s p (row_and_rest k q r more)
  after_token q k low l x (at e) is ends_at =
      let i = inside_at is (token_inside s q l) in
      let there : q + (e - q) ≡ e = omega (arith, i.0) in
      let m = rest e (omega (arith, i.0)) i.1 in
      record { stop = m.stop; gaps = gap x (subst (λ (j : ℕ). Gaps s j (more e).rows (stop_place (more e).stop)) (sym there) m.gaps) }
  after_token q k low l x _ is not_ended = record { stop = unfinished l; gaps = last_gap x }
  after_token q k low l x _ is ends_large = record { stop = too_large l; gaps = last_gap x }

  after_skip : (r : Reading) → skipped s p ≡ r → Skips s p r → Reads s p (token_after_blank s r more)
  after_skip (at q) is (skips_to x) = go (ltb q (length s)) refl
    where
      i : (p ≤ q) × (q ≤ length s)
      i = inside_at is (skip_inside s p h)

      go : (t : Bool) → ltb q (length s) ≡ t → Reads s p (cond t (row_and_rest (token_kind_at s q) q (end_of_token s q (token_kind_at s q)) more) (stopped (at q)))
      go true e = after_token q (token_kind_at s q) i.0 (ltb-true q (length s) e) x (end_of_token s q (token_kind_at s q)) refl (token_ends s q (token_kind_at s q))
      go false e =
          let at-end : q ≡ length s = omega (arith, i.1, ltb-false q (length s) e) in
          record { stop = subst (λ (k : ℕ). Stop s (at k)) (sym at-end) all_read; gaps = last_gap x }
  after_skip _ is (unclosed l x) = record { stop = unfinished l; gaps = last_gap x }

reads_in : (f : ℕ) (s : List ℕ) (p : ℕ) → p ≤ length s → length s - p < f → Reads s p (lexed_in f s p)
unfolding lexed_in
reads_in zero s p h enough = absurd (omega arith)
reads_in (suc f) s p h enough = after_skip s p h (λ q. lexed_in f s q) (λ e k l. reads_in f s e l (omega arith)) (skipped s p) refl (skips s p h)

reads_whole : (s : List ℕ) → Reads s 0 (lexed_whole s)
reads_whole s = rw (whole_fast s) (reads_in (length s + 1) s 0 (omega arith) (omega arith))

-- THE READING STOPS at the end of the bytes, or by 1, 2 or 3: its turns never run out.
pub lexed_stops : (s : List ℕ) → Stop s (lexed s).stop
unfolding lexed
lexed_stops s = go (leb (length s) most) refl
  where
    go : (t : Bool) → leb (length s) most ≡ t → Stop s (cond t (lexed_whole s) (stopped (refused 1 most))).stop
    go true e = (reads_whole s).stop
    go false e = too_long (leb-false (length s) most e)

-- BETWEEN TOKENS, before the first and up to where the reading stops, lie spaces and remarks alone.
pub lexed_gaps : (s : List ℕ) → length s ≤ most → Gaps s 0 (lexed s).rows (stop_place (lexed s).stop)
unfolding lexed
lexed_gaps s h = rw (le-leb (length s) most h) (reads_whole s).gaps

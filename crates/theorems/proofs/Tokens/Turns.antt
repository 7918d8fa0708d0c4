-- The reading of blanks and of tokens without turns: enough turns are as good as more, so each is given by what stands at its place.
use mathlib.Core.Path.{◌≡◌, refl, ap, ◌∙◌}
use mathlib.Core.Bool.{Bool, true, false, cond}
use mathlib.Core.List.{List}
use Prim.Native.Nat.{ℕ, zero, suc, ◌+◌, ◌-◌, ◌≤◌, ◌<◌}
use native.Mathlib.Omega.{arith}
use native.Mathlib.Numerals.{add-one}
use lib.ListN.{length, drop, get_or}
use lib.Dec.{ltb}
use borrow.Author.Tests.{ltb-true}
use Rattle.express.specs.Tokens.Bytes.{space}
use Rattle.express.specs.Tokens.Token.{longest_kind}
use Rattle.express.specs.Tokens.Lexis.{Reading, at, refused, run, opens, dashes, in_line, end_of_remark, reading_then, skipped_in, skipped, longest_end, token_kind_at, end_of_token}
use Rattle.express.specs.Tokens.Lexis.{Lexed, stopped, row_and_rest, longest_after_blank, longest_in, lexed_whole}
use Rattle.express.proofs.Tokens.Longest.{token_is_longest}
use Rattle.express.proofs.Tokens.Places.{in_text, pair_in, run_low, run_high, inside_at, remark_inside, skip_inside, token_inside}

-- ---- blanks

-- what follows a blank at p, where next gives what follows from a place on
abbrev pub blank_turn : List ℕ → ℕ → (ℕ → Reading) → Reading
blank_turn s p next =
    cond (space (get_or s p 0)) (next (p + 1))
    (cond (dashes (get_or s p 0) (get_or s (p + 1) 0)) (next (run in_line s (p + 2)))
    (cond (opens (get_or s p 0) (get_or s (p + 1) 0)) (reading_then (end_of_remark p 1 (p + 2) (drop (p + 2) s)) next) (at p)))

module _ (s : List ℕ) (p : ℕ) (h : p ≤ length s) (f g : ℕ → Reading) (same : (q : ℕ) → p < q → q ≤ length s → f q ≡ g q) where
  abbrev b : ℕ
  b = get_or s p 0

  abbrev c : ℕ
  c = get_or s (p + 1) 0

  then_same : opens b c ≡ true → (r : Reading) → end_of_remark p 1 (p + 2) (drop (p + 2) s) ≡ r → reading_then r f ≡ reading_then r g
  then_same o (at q) i =
      let k = pair_in 40 42 b s (p + 1) refl o in
      let l = inside_at i (remark_inside p 1 (p + 2) s (omega arith)) in
      same q (omega (arith, l.0)) l.1
  then_same o (refused n e) i = refl

  turn_same : blank_turn s p f ≡ blank_turn s p g
  unfolding space
  turn_same = by (space b) (dashes b c) (opens b c) refl refl refl
    where
      by : (x y z : Bool) → space b ≡ x → dashes b c ≡ y → opens b c ≡ z →
          cond x (f (p + 1)) (cond y (f (run in_line s (p + 2))) (cond z (reading_then (end_of_remark p 1 (p + 2) (drop (p + 2) s)) f) (at p))) ≡
          cond x (g (p + 1)) (cond y (g (run in_line s (p + 2))) (cond z (reading_then (end_of_remark p 1 (p + 2) (drop (p + 2) s)) g) (at p)))
      by true y z i j k = same (p + 1) (omega arith) (omega (arith, in_text space refl s p i))
      by false true z i j k =
          let l = pair_in 45 45 b s (p + 1) refl j in
          same (run in_line s (p + 2)) (omega (arith, run_low in_line s (p + 2))) (run_high in_line s (p + 2) (omega arith))
      by false false true i j k = then_same k (end_of_remark p 1 (p + 2) (drop (p + 2) s)) refl
      by false false false i j k = refl

skip_more : (f g : ℕ) (s : List ℕ) (p : ℕ) → p ≤ length s → length s - p < f → length s - p < g → skipped_in f s p ≡ skipped_in g s p
unfolding skipped_in
skip_more zero g s p h i j = absurd (omega arith)
skip_more (suc f) zero s p h i j = absurd (omega arith)
skip_more (suc f) (suc g) s p h i j = turn_same s p h (skipped_in f s) (skipped_in g s) (λ q a k. skip_more f g s q k (omega arith) (omega arith))

-- enough turns
pub skipped_is : (f : ℕ) (s : List ℕ) (p : ℕ) → p ≤ length s → length s - p < f → skipped_in f s p ≡ skipped s p
unfolding skipped
skipped_is f s p h i = skip_more f (length s + 1) s p h i (omega arith)

-- THE BLANKS from p on, without turns
pub skipped_step : (s : List ℕ) (p : ℕ) → p ≤ length s → skipped s p ≡ blank_turn s p (skipped s)
unfolding skipped skipped_in
skipped_step s p h =
    ap (λ (f : ℕ). skipped_in f s p) (add-one (length s)) ∙
    turn_same s p h (skipped_in (length s) s) (skipped s) (λ q a k. skipped_is (length s) s q k (omega arith))

-- ---- tokens

module _ (s : List ℕ) (p : ℕ) (h : p ≤ length s) (f g : ℕ → Lexed) (same : (q : ℕ) → p < q → q ≤ length s → f q ≡ g q) where
  row_same : (q k : ℕ) → p ≤ q → q < length s → (r : Reading) → end_of_token s q (token_kind_at s q) ≡ r → row_and_rest k q r f ≡ row_and_rest k q r g
  row_same q k low l (at e) i =
      let m = inside_at i (token_inside s q l) in
      rw (same e (omega (arith, m.0)) m.1)
  row_same q k low l (refused n o) i = refl

  after_same : (r : Reading) → skipped s p ≡ r → longest_after_blank s r f ≡ longest_after_blank s r g
  after_same (at q) i = by (ltb q (length s)) refl
    where
      by : (x : Bool) → ltb q (length s) ≡ x →
          cond x (row_and_rest (longest_kind (drop q s)) q (longest_end s q) f) (stopped (at q)) ≡ cond x (row_and_rest (longest_kind (drop q s)) q (longest_end s q) g) (stopped (at q))
      by true e =
          let l = ltb-true q (length s) e in
          row_same q (longest_kind (drop q s)) (inside_at i (skip_inside s p h)).0 l (longest_end s q) (token_is_longest s q l)
      by false e = refl
  after_same (refused n o) i = refl

in_more : (f g : ℕ) (s : List ℕ) (p : ℕ) → p ≤ length s → length s - p < f → length s - p < g → longest_in f s p ≡ longest_in g s p
unfolding longest_in
in_more zero g s p h i j = absurd (omega arith)
in_more (suc f) zero s p h i j = absurd (omega arith)
in_more (suc f) (suc g) s p h i j = after_same s p h (λ q. longest_in f s q) (λ q. longest_in g s q) (λ q a k. in_more f g s q k (omega arith) (omega arith)) (skipped s p) refl

-- the tokens from a place on
unfoldable pub from : List ℕ → ℕ → Lexed
from s p = longest_in (length s + 1) s p

pub from_is : (f : ℕ) (s : List ℕ) (p : ℕ) → p ≤ length s → length s - p < f → longest_in f s p ≡ from s p
unfolding from
from_is f s p h i = in_more f (length s + 1) s p h i (omega arith)

-- THE TOKENS from p on, without turns
pub from_step : (s : List ℕ) (p : ℕ) → p ≤ length s → from s p ≡ longest_after_blank s (skipped s p) (from s)
unfolding from longest_in
from_step s p h =
    ap (λ (f : ℕ). longest_in f s p) (add-one (length s)) ∙
    after_same s p h (λ q. longest_in (length s) s q) (from s) (λ q a k. from_is (length s) s q k (omega arith)) (skipped s p) refl

pub whole_from : (s : List ℕ) → lexed_whole s ≡ from s 0
unfolding from
whole_from s = refl

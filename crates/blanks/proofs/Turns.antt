-- What one turn of a loop over a run or a remark does to what the definition gives from there on.
use mathlib.Core.Path.{◌≡◌, refl, sym, ap, ◌∙◌}
use mathlib.Core.Bool.{Bool, true, false, ◌||◌}
use mathlib.Core.List.{List, [], ◌∷◌}
use Prim.Native.Nat.{ℕ, ◌+◌, ◌<◌, ◌-◌, ◌≤◌, max}
use native.Mathlib.Numerals.{add-one}
use native.Mathlib.Omega.{arith}
use native.Mathlib.Decide.{dec_lt}
use lib.ListN.{length, drop, get_or, drop_of_length-le}
use lib.Seq.{drop-cons}
use lib.Dec.{eqb}
use borrow.Author.Tests.{eq-eqb, ne_eqb}
use Rattle.express.specs.Tokens.Lexis.{Reading, at, refused, end_of_run, run, opens, closes, either, end_of_remark}

module _ (s : List ℕ) (i : ℕ) where
  pub at_cons : i < length s → drop i s ≡ get_or s i 0 ∷ drop (i + 1) s
  at_cons h = rw (add-one, drop-cons s i 0)

  pub at_nil : length s ≤ i → drop i s ≡ []
  at_nil h = drop_of_length-le s h

pub at_two : (s : List ℕ) (i : ℕ) → i + 1 < length s → drop i s ≡ get_or s i 0 ∷ get_or s (i + 1) 0 ∷ drop (i + 2) s
at_two s i h =
    let two : i + 2 ≡ i + 1 + 1 = omega arith in
    rw (two, at_cons s i (omega arith), at_cons s (i + 1) h)

-- ---- runs

pub run_over : (f : ℕ → Bool) (s : List ℕ) (i : ℕ) → length s ≤ i → run f s i ≡ i
unfolding end_of_run
run_over f s i h = rw (at_nil s i h)

module _ (f : ℕ → Bool) (s : List ℕ) (i : ℕ) where
  pub run_more : i < length s → f (get_or s i 0) ≡ true → run f s i ≡ run f s (i + 1)
  unfolding end_of_run
  run_more h e = rw (at_cons s i h, e)

  pub run_stop : i < length s → f (get_or s i 0) ≡ false → run f s i ≡ i
  unfolding end_of_run
  run_stop h e = rw (at_cons s i h, e)

  -- where a loop over the places from j on ends
  pub run_ends : (j : ℕ) {r : ℕ} → length s ≤ i → (j ≤ length s → i ≤ length s) → run f s i ≡ run f s j → r ≡ max j (length s) → r ≡ run f s j
  run_ends j {r} h le e q = by (dec_lt j (length s))
    where
      by : Dec (j < length s) → r ≡ run f s j
      by (yes l) = let m : r ≡ i = omega (arith, q) in m ∙ sym (run_over f s i h) ∙ e
      by (no n) = let m : r ≡ j = omega (arith, q) in m ∙ sym (run_over f s j (omega arith))

-- ---- remarks

neither : (l r : Bool) → (l || r) ≡ false → (l ≡ false) × (r ≡ false)
neither true r e = absurd (mathlib.Core.Bool.false≢true (sym e))
neither false r e = (refl, e)

module _ (s : List ℕ) (i : ℕ) where
  -- one byte at most is left
  at_one : {A : Type 0} (f : List ℕ → A) (a : A) → f [] ≡ a → ((b : ℕ) → f (b ∷ []) ≡ a) → length s ≤ i + 1 → f (drop i s) ≡ a
  at_one f a none one h = go (dec_lt i (length s))
    where
      go : Dec (i < length s) → f (drop i s) ≡ a
      go (yes l) = ap f (at_cons s i l) ∙ ap (λ (t : List ℕ). f (get_or s i 0 ∷ t)) (at_nil s (i + 1) h) ∙ one (get_or s i 0)
      go (no n) = ap f (at_nil s i (omega arith)) ∙ none

  module _ (o d : ℕ) where
    abbrev inside : ℕ → ℕ → Reading
    inside k j = end_of_remark o k j (drop j s)

    pub remark_over : length s ≤ i + 1 → inside d i ≡ refused 2 o
    unfolding end_of_remark
    remark_over h = at_one (end_of_remark o d i) (refused 2 o) refl (λ b. refl) h

    module _ (h : i + 1 < length s) where
      abbrev b : ℕ
      b = get_or s i 0

      abbrev c : ℕ
      c = get_or s (i + 1) 0

      pub remark_deeper : opens b c ≡ true → inside d i ≡ inside (d + 1) (i + 2)
      unfolding end_of_remark
      remark_deeper e = rw (at_two s i h, e)

      pub remark_out : opens b c ≡ false → closes b c ≡ true → (d ≡ 1 → ⊥) → inside d i ≡ inside (d - 1) (i + 2)
      unfolding end_of_remark
      remark_out e f n = rw (at_two s i h, e, f, ne_eqb _ _ n)

      pub remark_done : opens b c ≡ false → closes b c ≡ true → d ≡ 1 → inside d i ≡ at (i + 2)
      unfolding end_of_remark
      remark_done e f n = rw (at_two s i h, e, f, eq-eqb _ _ n)

      pub remark_on : opens b c ≡ false → closes b c ≡ false → inside d i ≡ inside d (i + 1)
      unfolding end_of_remark
      remark_on e f = rw (at_cons s i (omega arith), at_cons s (i + 1) h, e, f)

      -- a byte that is neither `(` nor `*` opens and closes nothing
      pub remark_pass : either 40 42 b ≡ false → inside d i ≡ inside d (i + 1)
      remark_pass e = let n = neither (eqb b 40) (eqb b 42) e in remark_on (rw n.0) (rw n.1)

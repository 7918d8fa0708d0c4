-- Literals: the exponent of a real, by what its bytes are; the bound on integers; a binary past the end.
use mathlib.Core.Path.{◌≡◌, refl, sym, ap, subst, ◌∙◌}
use mathlib.Core.Bool.{Bool, true, false, cond, ◌&&◌}
use mathlib.Core.List.{List, [], ◌∷◌}
use Prim.Native.Nat.{ℕ, zero, suc, ◌+◌, ◌*◌, ◌≤◌, ◌<◌, ◌-◌}
use native.Mathlib.Omega.{arith}
use native.Mathlib.Nat.{le_trans}
use lib.Dec.{T, leb, leb→le}
use borrow.Author.Tests.{le-leb, lt-leb}
use lib.ListN.{length, get_or, take, drop}
use Rattle.express.specs.Tokens.Bytes.{digit, bit}
use Rattle.express.specs.Tokens.Lexis.{at, refused, end_of_run, run, numeral, exponent_mark, digits_of_exponent, end_of_exponent, greatest, end_of_integer, integer_value, end_of_binary}
use Rattle.literals.specs.Literal.{capped}
use Rattle.express.proofs.Tokens.Places.{past, run_low_of}
use Rattle.blanks.proofs.Turns.{run_over}

module _ (s : List ℕ) (p : ℕ) where
  pub exponent_over : length s ≤ p → end_of_exponent s p ≡ p
  unfolding end_of_exponent
  exponent_over h = rw (past s p h)

  pub exponent_none : exponent_mark (get_or s p 0) ≡ false → end_of_exponent s p ≡ p
  unfolding end_of_exponent
  exponent_none e = rw e

  pub exponent_is : exponent_mark (get_or s p 0) ≡ true → digit (get_or s (digits_of_exponent s p) 0) ≡ true → end_of_exponent s p ≡ run digit s (digits_of_exponent s p)
  unfolding end_of_exponent
  exponent_is e f = rw (e, f)

  pub exponent_bare : digit (get_or s (digits_of_exponent s p) 0) ≡ false → end_of_exponent s p ≡ p
  unfolding end_of_exponent
  exponent_bare f = go (exponent_mark (get_or s p 0))
    where
      go : (t : mathlib.Core.Bool.Bool) → cond (t && digit (get_or s (digits_of_exponent s p) 0)) (run digit s (digits_of_exponent s p)) p ≡ p
      go true = rw f
      go false = mathlib.Core.Path.refl

-- ---- integers: n digits after v stand for no more than n nines do

abbrev nines : ℕ → ℕ → ℕ
nines v zero = v
nines v (suc n) = nines (v * 10 + 9) n

nines_more : (v w n : ℕ) → v ≤ w → nines v n ≤ nines w n
nines_more v w zero h = h
nines_more v w (suc n) h = nines_more (v * 10 + 9) (w * 10 + 9) n (omega (arith, h))

nines_few : (v n m : ℕ) → n ≤ m → nines v n ≤ nines v m
nines_few v zero zero h = omega arith
nines_few v zero (suc m) h = le_trans (nines_few v zero m (omega arith)) (nines_more v (v * 10 + 9) m (omega arith))
nines_few v (suc n) zero h = absurd (omega (arith, h))
nines_few v (suc n) (suc m) h = nines_few (v * 10 + 9) n m (omega (arith, h))

digit_few : (b : ℕ) → digit b ≡ true → b ≤ 57
digit_few b e = leb→le b 57 (subst T (sym (right (leb 48 b) (leb b 57) e)) tt)
  where
    right : (l r : Bool) → (l && r) ≡ true → r ≡ true
    right true r q = q
    right false r q = absurd (mathlib.Core.Bool.false≢true q)

digits_few : (v p : ℕ) (t : List ℕ) → numeral 10 v (take (end_of_run digit p t - p) t) ≤ nines v (end_of_run digit p t - p)
unfolding end_of_run numeral
digits_few v p [] = let none : p - p ≡ 0 = omega arith in rw none (omega arith)
digits_few v p (b ∷ t) = go (end_of_run digit (p + 1) t) (run_low_of digit (p + 1) t) (digit b) refl (digits_few (v * 10 + (b - 48)) (p + 1) t)
  where
    go : (e : ℕ) → p + 1 ≤ e → (d : Bool) → digit b ≡ d → numeral 10 (v * 10 + (b - 48)) (take (e - (p + 1)) t) ≤ nines (v * 10 + (b - 48)) (e - (p + 1))
        → numeral 10 v (take (cond d e p - p) (b ∷ t)) ≤ nines v (cond d e p - p)
    go e low true is more =
        let one : e - p ≡ suc (e - (p + 1)) = omega (arith, low) in
        let few : b ≤ 57 = digit_few b is in
        rw one (le_trans more (nines_more (v * 10 + (b - 48)) (v * 10 + 9) (e - (p + 1)) (omega (arith, few))))
    go e low false is more = let none : p - p ≡ 0 = omega arith in rw none (omega arith)

-- so many digits after a place: d, where the integer ends at e
pub integer_short : (s : List ℕ) (p e : ℕ) {d : ℕ} → d ≡ e - p → d < 19 → e ≡ run digit s p → at e ≡ end_of_integer s p
unfolding end_of_integer
integer_short s p e w h ends =
    let few : nines 0 (e - p) ≤ nines 0 18 = nines_few 0 (e - p) 18 (omega (arith, w, h)) in
    let here : numeral 10 0 (take (e - p) (drop p s)) ≤ nines 0 (e - p) = rw ends (digits_few 0 p (drop p s)) in
    let l : numeral 10 0 (take (e - p) (drop p s)) ≤ greatest = omega (arith, here, few) in
    rw (← ends, le-leb _ _ l)

module _ (s : List ℕ) (p e n : ℕ) {d : ℕ} (w : d ≡ e - p) (is : n ≡ capped (integer_value (take d (drop p s)))) where
  read : n ≡ capped (integer_value (take (e - p) (drop p s)))
  read = is ∙ ap (λ (x : ℕ). capped (integer_value (take x (drop p s)))) w

  pub integer_fits : n ≤ greatest → e ≡ run digit s p → at e ≡ end_of_integer s p
  unfolding end_of_integer integer_value
  integer_fits h ends = let l : integer_value (take (e - p) (drop p s)) ≤ greatest = omega (arith, read, h) in rw (← ends, le-leb _ _ l)

  pub integer_large : greatest < n → e ≡ run digit s p → refused 3 p ≡ end_of_integer s p
  unfolding end_of_integer integer_value
  integer_large h ends = let l : greatest < integer_value (take (e - p) (drop p s)) = omega (arith, read, h) in rw (← ends, lt-leb _ _ l)

-- ---- binaries

pub binary_over : (s : List ℕ) (p : ℕ) → length s ≤ p → refused 2 p ≡ end_of_binary s p
unfolding end_of_binary
binary_over s p h =
    let e : run bit s (p + 1) ≡ p + 1 = run_over bit s (p + 1) (omega (arith, h)) in
    let z : p + 1 - (p + 1) ≡ 0 = omega arith in
    rw (e, z)

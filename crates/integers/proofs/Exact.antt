-- Results that fit, and results that leave the range. A signed local holds bits: `own z` is what those of z read as.
use mathlib.Core.Path.{◌≡◌, refl, sym, ap, ◌∙◌}
use mathlib.Core.Logic.{⊎_elim}
use mathlib.Core.Bool.{Bool, true, false, cond, not}
use Prim.Native.Nat.{ℕ, zero, suc, ◌^◌, ◌≤◌, ◌<◌}
use native.Mathlib.Omega.{arith}
use borrow.Author.Tests.{ltb-false, lt-ltb, le-ltb, le-leb}
use lib.Dec.{ltb}
use lib.IntN.{ℤ, pos, negsuc, neg_ℤ, nat_abs}
use lib.Signed.{mag, lt_z, le_z}
use mir.Syntax.{w64}
use mir.Val.{SFits, to_z, of_z}
use mir.Facts.{to_z-of_z}
use Rattle.std.specs.Prelude.{Option, None, Some, Result, SomeIff}
use Rattle.std.specs.Option.{ok_or}
use Rattle.std.proofs.lemmas.Bool.{cases_lt}
use Rattle.express.specs.Semantics.Answer.{Answer, integer, end}
use Rattle.express.specs.Semantics.Integer.{exact, negative}
use Rattle.values.specs.declared.End.{End}
use Rattle.values.specs.declared.End.TheVariants.{OutOfRange}
use Rattle.integers.specs.Meaning.{integer_answer}

abbrev pub own : ℤ → ℤ
own z = to_z w64 (of_z w64 z)

-- ---- what fits is its value, and what does not is the end 16
pub exact_fits : (z : ℤ) → mag z < 2 ^ 63 → exact z ≡ integer z
unfolding exact
exact_fits z h = rw (lt-ltb (mag z) (2 ^ 63) h)

pub exact_over : (z : ℤ) → 2 ^ 63 ≤ mag z → exact z ≡ end 16
unfolding exact
exact_over z h = rw (le-ltb (mag z) (2 ^ 63) h)

-- what a checked operation of the machine gives
fits_or : (z : ℤ) → (SFits w64 z → ⊥) → 2 ^ 63 ≤ mag z
fits_or z h = ⊎_elim (λ l. absurd (h (record { sfits = l }))) (λ l. l) (cases_lt (mag z) (2 ^ 63))

pub checked_is : (z : ℤ) (o : Option ℤ) {r : Result ℤ End} → SomeIff o (SFits w64 z) z → r ≡ ok_or o OutOfRange → integer_answer r ≡ exact z
checked_is z None h e = rw e (sym (exact_over z (fits_or z h)))
checked_is z (Some x) h e = rw (e, h.1) (sym (exact_fits z h.0.sfits))

-- the same for the check's tactics, whatever is done with the `Option`: an operand is what its bits read as, and a result is exact or the end 16
pub own_is : (z : ℤ) → SFits w64 z → to_z w64 (of_z w64 z) ≡ z
own_is z f = to_z-of_z f

pub fits_exact : (z : ℤ) → SFits w64 z → exact z ≡ integer z
fits_exact z f = exact_fits z f.sfits

pub over_exact : (z : ℤ) → (SFits w64 z → ⊥) → exact z ≡ end 16
over_exact z h = exact_over z (fits_or z h)

pub ruleset checked = (own_is, fits_exact, over_exact)

-- ---- what an answer tells of the exact result
is_integer : (t : Bool) (z w : ℤ) → cond t (integer z) (end 16) ≡ integer w → z ≡ w
is_integer true z w e = cc
is_integer false z w e = let n : ◌≡◌ {A = ℕ} 0 1 = cc in absurd (omega arith)

is_ended : (t : Bool) (z : ℤ) (k : ℕ) → cond t (integer z) (end 16) ≡ end k → t ≡ false
is_ended true z k e = let n : ◌≡◌ {A = ℕ} 0 1 = cc in absurd (omega arith)
is_ended false z k e = refl

pub value_is : (z : ℤ) {w : ℤ} → exact z ≡ integer w → z ≡ w
unfolding exact
value_is z {w} e = is_integer (ltb (mag z) (2 ^ 63)) z w e

pub ended_is : (z : ℤ) {k : ℕ} → exact z ≡ end k → 2 ^ 63 ≤ mag z
unfolding exact
ended_is z {k} e = ltb-false _ _ (is_ended (ltb (mag z) (2 ^ 63)) z k e)

-- ---- x, as the code computes it, fits, and the integer that holds it is the answer w
pub record Gives (x : ℤ) (w : Answer) : Type 0 where
  pub fits : SFits w64 x
  pub value : integer (own x) ≡ w

pub gives : {x : ℤ} (z : ℤ) → x ≡ z → mag z < 2 ^ 63 → Gives x (exact z)
gives z e h =
    let f : SFits w64 z = record { sfits = h } in
    rw e (record { fits = f; value = ap integer (to_z-of_z f) ∙ sym (exact_fits z h) })

-- ---- signs, and the numbers that a test of the bits tells
pub below_zero : (z : ℤ) → lt_z z (pos 0) ≡ negative z
below_zero (pos n) = le-ltb n 0 (omega arith)
below_zero (negsuc n) = refl

pub not_below : (z : ℤ) {t : Bool} → le_z (pos 0) z ≡ t → lt_z z (pos 0) ≡ not t
not_below (pos n) e = rw (← e, le-leb 0 n (omega arith)) (le-ltb n 0 (omega arith))
not_below (negsuc n) e = rw (← e)

pub sign_is : {z : ℤ} {t : Bool} → SFits w64 z → lt_z (own z) (pos 0) ≡ t → negative z ≡ t
sign_is {z} f e = sym (below_zero z) ∙ rw (to_z-of_z f) at e

pub bits_are : {z : ℤ} {n : ℕ} → SFits w64 z → of_z w64 z ≡ n → z ≡ to_z w64 n
bits_are f e = sym (to_z-of_z f) ∙ ap (to_z w64) e

-- ---- magnitudes
pub mag_abs : (z : ℤ) → mag z ≤ nat_abs z
mag_abs (pos n) = omega arith
mag_abs (negsuc n) = omega arith

pub abs_neg : (z : ℤ) → nat_abs (neg_ℤ z) ≡ nat_abs z
abs_neg (pos zero) = refl
abs_neg (pos (suc n)) = refl
abs_neg (negsuc n) = refl

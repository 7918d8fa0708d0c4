-- DIV and MOD from the quotient of which the rest is not below 0, and that rest.
use mathlib.Core.Path.{◌≡◌, refl, sym, ◌∙◌, ap}
use mathlib.Core.Bool.{Bool, true, false}
use Prim.Native.Nat.{ℕ, zero, suc, ◌*◌, ◌/◌, ◌<◌, ◌≤◌, ◌^◌}
use native.Mathlib.Nat.{mod-lt, div-le_self, div-mul-le_self, mul-le-mul, le_refl}
use native.Mathlib.Omega.{arith}
use borrow.Author.Tests.{ne_eqb}
use lib.IntN.{ℤ, pos, negsuc, neg_ℤ, nat_abs, ◌-ℤ◌, +ℤ_idl}
use lib.Signed.{lt_z, mag, nat_abs-le, quot_z, mag_shr}
use mir.Facts.{to_z-of_z}
use mir.Syntax.{w64}
use mir.Val.{SFits, of_z}
use Rattle.std.specs.Int.{CanDivide, int_div_euclid, int_rem_euclid}
use Rattle.std.specs.Prelude.{Option, None, Some, Result, SomeIff}
use Rattle.std.specs.Option.{ok_or}
use Rattle.express.specs.Semantics.Answer.{integer, end}
use Rattle.express.specs.Semantics.Integer.{exact, negative, signed, rest, quotient, remainder, DIV, MOD}
use Rattle.values.specs.declared.End.{End}
use Rattle.values.specs.declared.End.TheVariants.{OutOfRange}
use Rattle.integers.specs.Meaning.{integer_answer}
use Rattle.integers.proofs.Exact.{own, own_is, Gives, gives, exact_fits, checked_is, sign_is, bits_are}

neg_mag : (n k : ℕ) → n ≤ k → 0 < k → mag (neg_ℤ (pos n)) < k
neg_mag zero k h g = g
neg_mag (suc n) k h g = h

-- ---- what fits: a quotient by -1 alone can leave the range
half : (n d : ℕ) → n / suc (suc d) * 2 ≤ n
half n d =
    let f : n / suc (suc d) * 2 ≤ n / suc (suc d) * suc (suc d) = mul-le-mul (le_refl (n / suc (suc d))) (omega arith) in
    omega (arith, div-mul-le_self n (suc (suc d)))

quot_small : (a b : ℤ) → mag a < 2 ^ 63 → (b ≡ negsuc 0 → ⊥) → mag (quot_z a b) < 2 ^ 63
quot_small (pos m) (pos d) h n = omega (arith, div-le_self m d)
quot_small (pos m) (negsuc d) h n = neg_mag (m / suc d) (2 ^ 63) (omega (arith, div-le_self m (suc d))) (omega arith)
quot_small (negsuc m) (pos d) h n = neg_mag (suc m / d) (2 ^ 63) (omega (arith, div-le_self (suc m) d)) (omega arith)
quot_small (negsuc m) (negsuc zero) h n = absurd (n refl)
quot_small (negsuc m) (negsuc (suc d)) h n = omega (arith, half (suc m) d)

quotient_small : (a b : ℤ) → mag a < 2 ^ 63 → (b ≡ negsuc 0 → ⊥) → mag (quotient a b) < 2 ^ 63
unfolding quotient
quotient_small a (pos d) h n = omega (arith, mag_shr a d)
quotient_small a (negsuc zero) h n = absurd (n refl)
quotient_small (pos m) (negsuc (suc d)) h n = neg_mag (m / suc (suc d)) (2 ^ 63) (omega (arith, div-le_self m (suc (suc d)))) (omega arith)
quotient_small (negsuc m) (negsuc (suc d)) h n = omega (arith, half m d)

rest_less : (a : ℤ) (d : ℕ) → 0 < d → rest a d < d
rest_less (pos m) d h = mod-lt m h
rest_less (negsuc m) d h = omega arith

remainder_small : (a b : ℤ) → 0 < nat_abs b → mag b < 2 ^ 63 → mag (remainder a b) < 2 ^ 63
unfolding remainder
remainder_small a (pos d) h g = omega (arith, rest_less a d h)
remainder_small a (negsuc d) h g = neg_mag (rest a (suc d)) (2 ^ 63) (omega (arith, rest_less a (suc d) h)) (omega arith)

not_none : (b : ℤ) → (of_z w64 b ≡ 0 → ⊥) → 0 < nat_abs b
not_none (pos n) z = omega arith
not_none (negsuc n) z = omega arith

-- ---- the machine's quotient and rest
div_is : (a b : ℤ) → int_div_euclid a b ≡ quotient a b
unfolding quotient
div_is (pos m) (pos d) = refl
div_is (pos m) (negsuc d) = refl
div_is (negsuc m) (pos d) = refl
div_is (negsuc m) (negsuc d) = refl

rem_is : (a b : ℤ) → int_rem_euclid a b ≡ pos (rest a (nat_abs b))
rem_is (pos m) b = refl
rem_is (negsuc m) b = ap pos (omega arith)

-- the machine's quotient rounds toward 0 where it asks whether there is one: by -1 the two are the same, by any other divisor both fit
toward_zero : (a : ℤ) → quot_z a (negsuc 0) ≡ quotient a (negsuc 0)
unfolding quotient
toward_zero (pos m) = refl
toward_zero (negsuc m) = ap pos (omega arith)

fits_there : (a b : ℤ) → mag a < 2 ^ 63 → mag (quot_z a b) < 2 ^ 63 → mag (quotient a b) < 2 ^ 63
fits_there a (pos d) h f = quotient_small a (pos d) h (λ e. let z : ◌≡◌ {A = ℕ} 0 1 = cc in absurd (omega arith))
fits_there a (negsuc zero) h f = rw toward_zero at f
fits_there a (negsuc (suc d)) h f = quotient_small a (negsuc (suc d)) h (λ e. let z : ◌≡◌ {A = ℕ} (suc d) 0 = cc in absurd (omega arith))

fits_back : (a b : ℤ) → mag a < 2 ^ 63 → mag (quotient a b) < 2 ^ 63 → mag (quot_z a b) < 2 ^ 63
fits_back a (pos d) h f = quot_small a (pos d) h (λ e. let z : ◌≡◌ {A = ℕ} 0 1 = cc in absurd (omega arith))
fits_back a (negsuc zero) h f = rw toward_zero f
fits_back a (negsuc (suc d)) h f = quot_small a (negsuc (suc d)) h (λ e. let z : ◌≡◌ {A = ℕ} (suc d) 0 = cc in absurd (omega arith))

told_as : {P Q : Type 0} {v w : ℤ} (o : Option ℤ) → (P → Q) → (Q → P) → v ≡ w → SomeIff o P v → SomeIff o Q w
told_as None p q e h = λ x. h (q x)
told_as (Some y) p q e h = (p h.0, h.1 ∙ e)

-- ---- as the code has it: a divisor of 0, and any other
module _ {b : ℤ} (a : ℤ) (g : SFits w64 b) where
  pub div_zero : of_z w64 b ≡ 0 → end 17 ≡ DIV a b
  unfolding DIV
  div_zero e = rw (bits_are g e)

  pub mod_zero : of_z w64 b ≡ 0 → end 17 ≡ MOD a b
  unfolding MOD
  mod_zero e = rw (bits_are g e)

module _ {a b : ℤ} (f : SFits w64 a) (g : SFits w64 b) (n : of_z w64 b ≡ 0 → ⊥) where
  pub div_answer :
      {r : Result ℤ End} (o : Option ℤ) → SomeIff o (CanDivide w64 (own a) (own b)) (int_div_euclid (own a) (own b)) → r ≡ ok_or o OutOfRange → integer_answer r ≡ DIV a b
  unfolding DIV
  div_answer o h e =
      let k : SomeIff o (CanDivide w64 a b) (int_div_euclid a b) = rw (to_z-of_z f, to_z-of_z g) at h in
      let s : SomeIff o (SFits w64 (quotient a b)) (quotient a b) =
      told_as o (λ c. record { sfits = fits_there a b f.sfits c.1.sfits }) (λ c. (omega (arith, n), record { sfits = fits_back a b f.sfits c.sfits })) (div_is a b) k in
      rw (ne_eqb (nat_abs b) 0 (λ z. absurd (omega (arith, not_none b n)))) (checked_is (quotient a b) o s e)

  -- for the check's tactics, whatever is done with the `Option`
  pub div_fits : CanDivide w64 a b → DIV a b ≡ integer (int_div_euclid a b)
  div_fits h = sym (div_answer (Some (int_div_euclid a b)) (rw (to_z-of_z f, to_z-of_z g) (h, refl)) refl)

  pub div_over : (CanDivide w64 a b → ⊥) → DIV a b ≡ end 16
  div_over h = sym (div_answer None (rw (to_z-of_z f, to_z-of_z g) h) refl)

  module _ {r : ℤ} (e : r ≡ int_rem_euclid (own a) (own b)) where
    rest_is : r ≡ pos (rest a (nat_abs b))
    rest_is = rw (to_z-of_z f, to_z-of_z g) at e ∙ rem_is a b

    rest_own : own r ≡ pos (rest a (nat_abs b))
    rest_own =
        let h : SFits w64 (pos (rest a (nat_abs b))) = record { sfits = omega (arith, rest_less a (nat_abs b) (not_none b n), nat_abs-le b g.sfits) } in
        rw rest_is (to_z-of_z h)

    remainder_is : {x : ℤ} → x ≡ remainder a b → Gives x (MOD a b)
    unfolding MOD
    remainder_is p = rw (ne_eqb (nat_abs b) 0 (λ z. absurd (omega (arith, not_none b n)))) (gives (remainder a b) p (remainder_small a b (not_none b n) g.sfits))

    mod_exact : MOD a b ≡ exact (remainder a b)
    unfolding MOD
    mod_exact = rw (ne_eqb (nat_abs b) 0 (λ z. absurd (omega (arith, not_none b n))))

    signed_rest : {t : Bool} → negative b ≡ t → signed t (pos (rest a (nat_abs b))) ≡ remainder a b
    unfolding remainder
    signed_rest t = rw t

    pub mod_opposite : lt_z (own b) (pos 0) ≡ true → Gives (pos 0 -ℤ own r) (MOD a b)
    mod_opposite t = remainder_is (rw rest_own (+ℤ_idl (neg_ℤ (pos (rest a (nat_abs b)))) ∙ signed_rest (sign_is g t)))

    pub mod_same : lt_z (own b) (pos 0) ≡ false → integer (own r) ≡ MOD a b
    mod_same t =
        let p = signed_rest (sign_is g t) in
        rw (rest_own, p) (sym (mod_exact ∙ exact_fits (remainder a b) (remainder_small a b (not_none b n) g.sfits)))

pub ruleset divided = (own_is, div_fits, div_over)

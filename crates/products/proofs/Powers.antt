-- The machine's power is that of the language, and an exponent of 64 or more counts by its parity alone.
use mathlib.Core.Path.{◌≡◌, refl, sym, ap, ◌∙◌}
use mathlib.Core.Bool.{Bool, true, false, cond, not, true≢false}
use Prim.Native.Nat.{ℕ, zero, suc, ◌+◌, ◌-◌, ◌*◌, ◌%◌, ◌^◌, ◌≤◌, ◌<◌}
use native.Mathlib.Nat.{zero-mul, mul-le-mul, pow-zero, pow-suc}
use native.Mathlib.Omega.{arith}
use lib.Dec.{T, eqb}
use lib.IntN.{ℤ, pos, negsuc, neg_ℤ, nat_abs, ◌*ℤ◌, pow, one, *ℤ-zero}
use lib.Pow.{pow_mono}
use lib.Signed.{mag, lt_z, non_neg}
use mir.Syntax.{w64}
use mir.Val.{SFits, Fits, of_z}
use mir.Facts.{to_z-of_z}
use Rattle.std.specs.Int.{int_pow}
use Rattle.std.specs.Prelude.{Option, Result, SomeIff}
use Rattle.std.specs.Option.{ok_or}
use Rattle.express.specs.Semantics.Answer.{integer, end}
use Rattle.express.specs.Semantics.Integer.{exact, negative, signed, power}
use Rattle.values.specs.declared.End.{End}
use Rattle.values.specs.declared.End.TheVariants.{OutOfRange}
use Rattle.integers.specs.Meaning.{integer_answer}
use Rattle.integers.proofs.Exact.{own, exact_fits, exact_over, checked_is, sign_is, bits_are, abs_neg}

-- ---- the magnitude of a power
abs_times : (a b : ℤ) → nat_abs (a *ℤ b) ≡ nat_abs a * nat_abs b
abs_times (pos m) (pos n) = refl
abs_times (pos m) (negsuc n) = abs_neg (pos (m * suc n))
abs_times (negsuc m) (pos n) = abs_neg (pos (suc m * n))
abs_times (negsuc m) (negsuc n) = refl

abs_mag : (z : ℤ) → nat_abs z ≤ mag z + 1
abs_mag (pos n) = omega arith
abs_mag (negsuc n) = omega arith

grow : (a : ℤ) (n : ℕ) → 2 ≤ nat_abs a → 2 ^ n ≤ nat_abs (pow a n)
unfolding pow one
grow a zero h = omega arith
grow a (suc n) h =
    let f : 2 ^ n * 2 ≤ nat_abs (pow a n) * nat_abs a = mul-le-mul (grow a n h) h in
    rw (abs_times (pow a n) a, pow-suc 2 n) f

over : (a : ℤ) (n : ℕ) → 2 ≤ nat_abs a → 64 ≤ n → 2 ^ 63 ≤ mag (pow a n)
over a n h l = let p : 2 ^ 64 ≤ 2 ^ n = pow_mono l in omega (arith, grow a n h, abs_mag (pow a n))

-- ---- the powers of 0, 1 and -1
of_zero : (n : ℕ) → (n ≡ 0 → ⊥) → pow (pos 0) n ≡ pos 0
unfolding pow
of_zero zero h = absurd (h refl)
of_zero (suc n) h = *ℤ-zero (pow (pos 0) n)

of_one : (n : ℕ) → pow (pos 1) n ≡ pos 1
unfolding pow one
of_one zero = refl
of_one (suc n) = rw (of_one n)

parity : (r t : ℕ) → r < 2 → t ≡ 1 - r → eqb t 1 ≡ not (eqb r 1)
parity zero t h e = rw e
parity (suc zero) t h e = rw e
parity (suc (suc r)) t h e = absurd (omega arith)

turned : (s : Bool) → signed s (pos 1) *ℤ negsuc 0 ≡ signed (not s) (pos 1)
turned true = refl
turned false = refl

of_minus_one : (n : ℕ) → pow (negsuc 0) n ≡ signed (eqb (n % 2) 1) (pos 1)
unfolding pow one
of_minus_one zero = refl
of_minus_one (suc n) =
    ap (λ (z : ℤ). z *ℤ negsuc 0) (of_minus_one n) ∙ turned (eqb (n % 2) 1) ∙ ap (λ (t : Bool). signed t (pos 1)) (sym (parity (n % 2) (suc n % 2) (omega arith) (omega arith)))

-- ---- the machine's power
times_negative : (t : Bool) (p k : ℕ) → cond t (pos p) (neg_ℤ (pos p)) *ℤ negsuc k ≡ cond (not t) (pos (p * suc k)) (neg_ℤ (pos (p * suc k)))
times_negative true p k = refl
times_negative false zero k = rw (zero-mul (suc k))
times_negative false (suc p) k = refl

other_parity : (n : ℕ) → not (eqb (n % 2) 0) ≡ eqb (suc n % 2) 0
other_parity n = sym (parity_zero (n % 2) (suc n % 2) (omega arith) (omega arith))
  where
    parity_zero : (r t : ℕ) → r < 2 → t ≡ 1 - r → eqb t 0 ≡ not (eqb r 0)
    parity_zero zero t h e = rw e
    parity_zero (suc zero) t h e = rw e
    parity_zero (suc (suc r)) t h e = absurd (omega arith)

power_is : (a : ℤ) (n : ℕ) → pow a n ≡ int_pow a n
unfolding pow one
power_is (pos a) zero = rw (pow-zero a)
power_is (pos a) (suc n) = rw (power_is (pos a) n, pow-suc a n)
power_is (negsuc a) zero = rw (pow-zero (suc a))
power_is (negsuc a) (suc n) =
    rw (power_is (negsuc a) n, pow-suc (suc a) n) (times_negative (eqb (n % 2) 0) (suc a ^ n) a ∙ ap (λ t. cond t (pos (suc a ^ n * suc a)) (neg_ℤ (pos (suc a ^ n * suc a)))) (other_parity n))

-- ---- two exponents of 64 or more, and of one parity
far : (a : ℤ) (m n : ℕ) → 64 ≤ m → 64 ≤ n → m % 2 ≡ n % 2 → exact (pow a m) ≡ exact (pow a n)
far (pos zero) m n h k e = ap exact (of_zero m (λ z. absurd (omega arith)) ∙ sym (of_zero n (λ z. absurd (omega arith))))
far (pos (suc zero)) m n h k e = ap exact (of_one m ∙ sym (of_one n))
far (pos (suc (suc a))) m n h k e = exact_over _ (over (pos (suc (suc a))) m (omega arith) h) ∙ sym (exact_over _ (over (pos (suc (suc a))) n (omega arith) k))
far (negsuc zero) m n h k e = ap exact (of_minus_one m ∙ ap (λ r. signed (eqb r 1) (pos 1)) e ∙ sym (of_minus_one n))
far (negsuc (suc a)) m n h k e = exact_over _ (over (negsuc (suc a)) m (omega arith) h) ∙ sym (exact_over _ (over (negsuc (suc a)) n (omega arith) k))

-- n stands for the exponent e
pub record Stands (e n : ℕ) : Type 0 where
  pub small : n < 66
  pub is : (a : ℤ) → exact (pow a n) ≡ exact (pow a e)

pub itself : (e : ℕ) → e < 64 → Stands e e
itself e h = record { small = omega arith; is = λ a. refl }

pub by_parity : (e : ℕ) → 64 ≤ e → Stands e (64 + e % 2)
by_parity e h = record { small = omega arith; is = λ a. far a (64 + e % 2) e (omega arith) h (omega arith) }

-- ---- the answers, as the code has them: e is b, which is not below 0
at_negative : (a b : ℤ) → negative b ≡ true → end 18 ≡ power a b
unfolding power
at_negative a (pos n) s = absurd (true≢false (sym s))
at_negative a (negsuc n) s = refl

pub negative_power : {b : ℤ} (a : ℤ) → SFits w64 b → lt_z (own b) (pos 0) ≡ true → end 18 ≡ power a b
negative_power {b} a g s = at_negative a b (sign_is g s)

-- b as a number without a sign
casts : (b : ℤ) → mag b < 2 ^ 63 → negative b ≡ false → T (non_neg b) × Fits w64 (nat_abs b)
casts (pos n) h s = (tt, record { fits = omega arith })
casts (negsuc n) h s = absurd (true≢false s)

pub plus_casts : {b : ℤ} → SFits w64 b → lt_z (own b) (pos 0) ≡ false → T (non_neg (own b)) × Fits w64 (nat_abs (own b))
plus_casts {b} g s = rw (to_z-of_z g) (casts b g.sfits (sign_is g s))

at_natural : (a b : ℤ) → negative b ≡ false → exact (pow a (nat_abs b)) ≡ power a b
unfolding power
at_natural a (pos n) s = refl
at_natural a (negsuc n) s = absurd (true≢false s)

module _ {a b : ℤ} (f : SFits w64 a) (g : SFits w64 b) (s : lt_z (own b) (pos 0) ≡ false) where
  natural : {z : ℤ} → z ≡ pow a (nat_abs (own b)) → mag z < 2 ^ 63 → integer z ≡ power a b
  natural {z} e h = sym (exact_fits z h) ∙ ap exact e ∙ rw (to_z-of_z g) (at_natural a b (sign_is g s))

  pub power_of_none : nat_abs (own b) ≡ 0 → integer (pos 1) ≡ power a b
  unfolding pow one
  power_of_none n = natural (rw n) (omega arith)

  pub power_zero : (nat_abs (own b) ≡ 0 → ⊥) → of_z w64 a ≡ 0 → integer (pos 0) ≡ power a b
  power_zero n e = natural (sym (rw (bits_are f e) (of_zero (nat_abs (own b)) n))) (omega arith)

  pub power_one : of_z w64 a ≡ 1 → integer (pos 1) ≡ power a b
  power_one e = natural (sym (rw (bits_are f e) (of_one (nat_abs (own b))))) (omega arith)

  module _ (e : of_z w64 a ≡ 18446744073709551615) where
    minus_one : (r : ℕ) → nat_abs (own b) % 2 ≡ r → signed (eqb r 1) (pos 1) ≡ pow a (nat_abs (own b))
    minus_one r p = rw (bits_are f e, ← p) (sym (of_minus_one (nat_abs (own b))))

    pub power_even : nat_abs (own b) % 2 ≡ 0 → integer (pos 1) ≡ power a b
    power_even p = natural (minus_one 0 p) (omega arith)

    pub power_odd : (nat_abs (own b) % 2 ≡ 0 → ⊥) → integer (negsuc 0) ≡ power a b
    power_odd p = natural (minus_one 1 (omega arith)) (omega arith)

pub power_answer :
    {a b : ℤ} {n : ℕ} {r : Result ℤ End} → SFits w64 a → SFits w64 b → lt_z (own b) (pos 0) ≡ false → Stands (nat_abs (own b)) n → (o : Option ℤ) →
    SomeIff o (SFits w64 (int_pow (own a) n)) (int_pow (own a) n) → r ≡ ok_or o OutOfRange → integer_answer r ≡ power a b
power_answer {a} {b} {n} f g s S o h e =
    checked_is (int_pow (own a) n) o h e ∙ ap exact (sym (power_is (own a) n)) ∙ S.is (own a) ∙ rw (to_z-of_z f, to_z-of_z g) (at_natural a b (sign_is g s))

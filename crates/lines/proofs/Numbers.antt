-- Laws of numbers in a line: decimal digits from the last on, signed integers read from their bits, and bits from the left.
use mathlib.Core.Path.{◌≡◌, refl, sym, ap, ◌∙◌}
use mathlib.Core.Bool.{Bool, true, false}
use mathlib.Core.List.{List, [], ◌∷◌, ◌++◌, append_assoc, map}
use mathlib.Core.Logic.{⊎_elim}
use Prim.Native.Nat.{ℕ, zero, suc, ◌+◌, ◌-◌, ◌*◌, ◌/◌, ◌%◌, ◌^◌, ◌≤◌, ◌<◌}
use native.Mathlib.Nat.{div-lt_iff_lt-mul, pow-suc, lt_of_lt_of_le, div-eq_of_lt}
use native.Mathlib.Omega.{arith}
use native.Mathlib.Numerals.{add-one}
use borrow.Author.Tests.{lt-ltb, le-ltb, ne_eqb}
use lib.Pow.{pow_mono}
use lib.Dec.{T, eqb}
use lib.IntN.{ℤ, pos, negsuc, nat_abs, ◌-ℤ◌}
use lib.ListN.{length, set, length-set, length-append, length-map}
use lib.Seq.{sets}
use lib.Signed.{lt_z, mag, non_neg}
use mir.Facts.{to_z-of_z}
use mir.Syntax.{w64}
use mir.Val.{SFits, Fits, to_z, of_z}
use Rattle.relations.proofs.Select.{le_or}
use Rattle.express.specs.Tokens.Terminal.{bytes}
use Rattle.express.specs.Semantics.AnswerRow.{natural, ranked}
use Rattle.express.specs.Semantics.Bits.{bits}
use Rattle.express.proofs.Semantics.Bits.{length_bits}
use Rattle.express.specs.Whole.Listing.{digits, decimal, signed, logical_name, bit_digit}
use Rattle.lines.specs.Piece.{Stored, Puts}
use Rattle.lines.proofs.Pieces.{then, spelled, renamed}

-- ---- decimal digits

tenth : (n m : ℕ) → n < m * 10 → n / 10 < m
tenth n m h = (div-lt_iff_lt-mul {k = 10} {x = n} {y = m} (omega arith)).1 h

-- digits that are there already stay behind
digits_before : (f n : ℕ) (ds : List ℕ) → digits f n ds ≡ digits f n [] ++ ds
unfolding digits
digits_before zero n ds = refl
digits_before (suc f) n ds = ⊎_elim
    (λ (large : 10 ≤ n). rw (le-ltb n 10 large)
    (digits_before f (n / 10) ((48 + n % 10) ∷ ds)
    ∙ sym (append_assoc (digits f (n / 10) []) ((48 + n % 10) ∷ []) ds)
    ∙ ap (λ (l : List ℕ). l ++ ds) (sym (digits_before f (n / 10) ((48 + n % 10) ∷ [])))))
    (λ (small : n < 10). rw (lt-ltb n 10 small))
    (le_or 10 n)

-- as many turns as the number has digits are enough
digits_enough : (f n : ℕ) (ds : List ℕ) → n < 10 ^ suc f → digits (suc (suc f)) n ds ≡ digits (suc f) n ds
unfolding digits
digits_enough zero n ds h = rw (lt-ltb n 10 h)
digits_enough (suc f) n ds h = ⊎_elim
    (λ (large : 10 ≤ n). rw (le-ltb n 10 large)
    (digits_enough f (n / 10) ((48 + n % 10) ∷ ds) (tenth n (10 ^ suc f) (rw (pow-suc 10 (suc f)) at h))))
    (λ (small : n < 10). rw (lt-ltb n 10 small))
    (le_or 10 n)

digits_short : (f n : ℕ) (ds : List ℕ) → length (digits f n ds) ≤ f + length ds
unfolding digits
digits_short zero n ds = omega arith
digits_short (suc f) n ds = ⊎_elim
    (λ (large : 10 ≤ n). rw (le-ltb n 10 large) (omega (arith, digits_short f (n / 10) ((48 + n % 10) ∷ ds))))
    (λ (small : n < 10). rw (lt-ltb n 10 small) (omega arith))
    (le_or 10 n)

pub decimal_short : (n : ℕ) → length (decimal n) ≤ 20
decimal_short n = digits_short 20 n []

-- a digit; and the digits of a number's tenth, then its last one
pub decimal_digit : (n : ℕ) → n < 10 → decimal n ≡ (48 + n) ∷ []
unfolding digits
decimal_digit n h = rw (lt-ltb n 10 h)

first_digit : (n : ℕ) → 10 ≤ n → decimal n ≡ digits 19 (n / 10) ((48 + n % 10) ∷ [])
unfolding digits
first_digit n h = rw (le-ltb n 10 h)

pub decimal_more : (n : ℕ) → n < 2 ^ 64 → 10 ≤ n → decimal n ≡ decimal (n / 10) ++ ((48 + n % 10) ∷ [])
decimal_more n fits h =
    first_digit n h ∙ sym (digits_enough 18 (n / 10) ((48 + n % 10) ∷ []) (tenth n (10 ^ 19) (omega arith)))
    ∙ digits_before 20 (n / 10) ((48 + n % 10) ∷ [])

pub put_digit : {was have : List ℕ} {at next n d : ℕ} → n < 10 → d ≡ 48 + n → Puts was at (d ∷ []) have next → Puts was at (decimal n) have next
put_digit {n = n} h e p = spelled (decimal n) p.put (ap (λ (b : ℕ). b ∷ []) e ∙ sym (decimal_digit n h)) (omega (arith, decimal_short n))

pub put_more : {was mid have : List ℕ} {at m next n d : ℕ} → 10 ≤ n → n < 2 ^ 64 → Puts was at (decimal (n / 10)) mid m → d ≡ 48 + n % 10
    → Puts mid m (d ∷ []) have next → Puts was at (decimal n) have next
put_more {n = n} h fits p e q =
    spelled (decimal n) (then p.put q.put) (ap (λ (b : ℕ). decimal (n / 10) ++ (b ∷ [])) e ∙ sym (decimal_more n fits h))
    (omega (arith, decimal_short n))

-- ---- a signed number, read from its bits

ones : (n : ℕ) → negsuc 0 -ℤ negsuc n ≡ pos n
ones n = rw (le-ltb (suc n) 1 (omega arith)) (ap pos (omega arith))

at_negative : (z : ℤ) (n : ℕ) → z ≡ negsuc n → negsuc 0 -ℤ z ≡ pos (mag z)
at_negative z n e = rw e (ones n)

signed_positive : (z : ℤ) (n : ℕ) → z ≡ pos n → signed z ≡ decimal (natural z)
signed_positive z n e = rw e

signed_negative : (z : ℤ) (n : ℕ) → z ≡ negsuc n → signed z ≡ bytes "-" ++ decimal (suc (mag z))
signed_negative z n e = rw e

module _ (z : ℤ) (f : SFits w64 z) where
  below : lt_z (to_z w64 (of_z w64 z)) (pos 0) ≡ true → (n : ℕ) × (z ≡ negsuc n)
  below e = back z (rw (to_z-of_z f) at e)
    where
      back : (y : ℤ) → lt_z y (pos 0) ≡ true → (n : ℕ) × (y ≡ negsuc n)
      back (pos n) e = let w : ◌≡◌ {A = Bool} true false = sym e ∙ le-ltb n 0 (omega arith) in let u : ◌≡◌ {A = ℕ} 0 1 = cc in absurd (omega arith)
      back (negsuc n) e = (n, refl)

  above : lt_z (to_z w64 (of_z w64 z)) (pos 0) ≡ false → (n : ℕ) × (z ≡ pos n)
  above e = back z (rw (to_z-of_z f) at e)
    where
      back : (y : ℤ) → lt_z y (pos 0) ≡ false → (n : ℕ) × (y ≡ pos n)
      back (pos n) e = (n, refl)
      back (negsuc n) e = let u : ◌≡◌ {A = ℕ} 0 1 = cc in absurd (omega arith)

  pub natural_zero : lt_z (to_z w64 (of_z w64 z)) (pos 0) ≡ true → 0 ≡ natural z
  natural_zero e = let b = below e in rw b.1

  module _ (e : lt_z (to_z w64 (of_z w64 z)) (pos 0) ≡ false) where
    read : (y : ℤ) → y ≡ z → T (non_neg y) × (nat_abs y ≡ natural y)
    read y is = let b = above e in rw (is ∙ b.1) (tt, refl)

    pub natural_small : natural z < 2 ^ 63
    natural_small = let b = above e in let h : mag z < 2 ^ 63 = f.sfits in rw b.1 (rw b.1 at h)

    pub natural_is : nat_abs (to_z w64 (of_z w64 z)) ≡ natural z
    natural_is = (read (to_z w64 (of_z w64 z)) (to_z-of_z f)).1 ∙ ap natural (to_z-of_z f)

    pub natural_casts : T (non_neg (to_z w64 (of_z w64 z))) × Fits w64 (nat_abs (to_z w64 (of_z w64 z)))
    natural_casts = ((read (to_z w64 (of_z w64 z)) (to_z-of_z f)).0, record { fits = omega (arith, natural_is, natural_small) })

    signed_plus : {n : ℕ} → n ≡ natural (to_z w64 (of_z w64 z)) → decimal n ≡ signed z
    signed_plus {n} is =
        let b = above e in
        let all : n ≡ natural z = is ∙ ap natural (to_z-of_z f) in
        rw all (sym (signed_positive z b.0 b.1))

  module _ (e : lt_z (to_z w64 (of_z w64 z)) (pos 0) ≡ true) where
    opposite : negsuc 0 -ℤ to_z w64 (of_z w64 z) ≡ pos (mag z)
    opposite = let b = below e in rw (to_z-of_z f) (at_negative z b.0 b.1)

    pub opposite_fits : SFits w64 (negsuc 0 -ℤ to_z w64 (of_z w64 z))
    opposite_fits = rw opposite (record { sfits = f.sfits })

    signed_minus : {n : ℕ} → n ≡ natural (to_z w64 (of_z w64 (negsuc 0 -ℤ to_z w64 (of_z w64 z)))) → bytes "-" ++ decimal (n + 1) ≡ signed z
    signed_minus {n} is =
        let b = below e in
        let all : n ≡ mag z = is ∙ ap natural (to_z-of_z opposite_fits ∙ opposite) in
        rw (all, add-one) (sym (signed_negative z b.0 b.1))

-- a text before a number
pub put_before : {was mid have : List ℕ} {at m next : ℕ} (t : List ℕ) (n : ℕ) → length t ≤ 20 → Puts was at t mid m → Puts mid m (decimal n) have next
    → Puts was at (t ++ decimal n) have next
put_before t n h p q = spelled (t ++ decimal n) (then p.put q.put) refl (omega (arith, length-append t (decimal n), decimal_short n))

-- an integer by its sign and its magnitude
module _ {z : ℤ} (f : SFits w64 z) {was have : List ℕ} {at next n : ℕ} where
  pub put_minus : {mid : List ℕ} {m : ℕ} → lt_z (to_z w64 (of_z w64 z)) (pos 0) ≡ true → n ≡ natural (to_z w64 (of_z w64 (negsuc 0 -ℤ to_z w64 (of_z w64 z))))
      → Puts was at (45 ∷ []) mid m → Puts mid m (decimal (n + 1)) have next → Puts was at (signed z) have next
  put_minus e is p q = renamed (put_before (bytes "-") (n + 1) (omega arith) p q) (signed_minus z f e is)

  pub put_plus : lt_z (to_z w64 (of_z w64 z)) (pos 0) ≡ false → n ≡ natural (to_z w64 (of_z w64 z)) → Puts was at (decimal n) have next
      → Puts was at (signed z) have next
  put_plus e is p = renamed p (signed_plus z f e is)

-- ---- logicals by their ranks

pub false_is : (n : ℕ) → n ≡ 0 → bytes "FALSE" ≡ bytes (logical_name (ranked n))
false_is n e = rw e

pub unknown_is : (n : ℕ) → n ≡ 1 → bytes "UNKNOWN" ≡ bytes (logical_name (ranked n))
unknown_is n e = rw e

pub true_is : (n : ℕ) → (n ≡ 0 → ⊥) → (n ≡ 1 → ⊥) → bytes "TRUE" ≡ bytes (logical_name (ranked n))
true_is n e d = rw (ne_eqb n 0 e, ne_eqb n 1 d)

-- ---- bits, from the left: `left` of them are to come

pub bit_none : (n w : ℕ) → n < 2 ^ 64 → 63 < w → 48 ≡ bit_digit (eqb (n / 2 ^ w % 2) 1)
bit_none n w f h = let small : n < 2 ^ w = lt_of_lt_of_le f (pow_mono h) in rw (div-eq_of_lt small)

pub bit_set : (m : ℕ) → m ≡ 1 → 49 ≡ bit_digit (eqb m 1)
bit_set m h = rw h

pub bit_unset : (m : ℕ) → (m ≡ 1 → ⊥) → 48 ≡ bit_digit (eqb m 1)
bit_unset m h = rw (ne_eqb m 1 h)

pub record Remaining (n l : ℕ) (was : List ℕ) (at : ℕ) (have : List ℕ) (left next : ℕ) : Type 0 where
  pub is : sets have next (map bit_digit (bits left n)) ≡ sets was at (map bit_digit (bits l n))
  pub place : next + left ≡ at + l
  pub within : left ≤ l
  pub long : length have ≡ length was

module _ {n l : ℕ} {was : List ℕ} {at : ℕ} where
  pub remaining_starts : Remaining n l was at was (l - 0) (at + 0)
  remaining_starts = let e : l - 0 ≡ l = omega arith in let k : at + 0 ≡ at = omega arith in
      rw (e, k) (record { is = refl; place = refl; within = omega arith; long = refl })

  remaining_goes_on : {have now : List ℕ} {left next b : ℕ} → 0 < left → Remaining n l was at have left next → now ≡ set have next b
      → b ≡ bit_digit (eqb (n / 2 ^ (left - 1) % 2) 1) → Remaining n l was at now (left - 1) (next + 1)
  unfolding bits
  remaining_goes_on {have} {now} {left} {next} {b} h k set_is e =
      let one : left ≡ suc (left - 1) = omega arith in
      let was_is : sets have next (map bit_digit (bits (suc (left - 1)) n)) ≡ sets was at (map bit_digit (bits l n)) =
      ap (λ (m : ℕ). sets have next (map bit_digit (bits m n))) (sym one) ∙ k.is in
      record {
        is = rw (add-one, set_is, e) was_is;
        place = omega (arith, k.place);
        within = omega arith;
        long = ap length set_is ∙ length-set have next b ∙ k.long;
      }

  pub remaining_step : {have now : List ℕ} {i b : ℕ} → i < l → Remaining n l was at have (l - i) (at + i) → now ≡ set have (at + i) b
      → b ≡ bit_digit (eqb (n / 2 ^ (l - 1 - i) % 2) 1) → Remaining n l was at now (l - (i + 1)) (at + (i + 1))
  remaining_step {i = i} h k set_is e =
      let a : l - (i + 1) ≡ l - i - 1 = omega arith in
      let c : at + (i + 1) ≡ at + i + 1 = omega arith in
      let d : l - 1 - i ≡ l - i - 1 = omega arith in
      rw (a, c) (remaining_goes_on (omega arith) k set_is (rw d at e))

  pub remaining_ends : {have : List ℕ} {i : ℕ} → l ≤ i → Remaining n l was at have (l - i) (at + i) → Stored was at (map bit_digit (bits l n)) have (at + l)
  unfolding bits
  remaining_ends {have} {i} h k =
      let none : l - i ≡ 0 = omega arith in
      let end : at + i ≡ at + l = omega (arith, k.place) in
      record {
        is = let e = ap (λ (m : ℕ). sets have (at + i) (map bit_digit (bits m n))) none in sym e ∙ k.is;
        moves = omega (arith, length-map (bits l n) bit_digit, length_bits l n);
      }

pub put_binary : {was mid have : List ℕ} {at m next : ℕ} (n l : ℕ) → l < 256 → Puts was at (37 ∷ []) mid m → Puts mid m (map bit_digit (bits l n)) have next
    → Puts was at (bytes "%" ++ map bit_digit (bits l n)) have next
put_binary n l h p q =
    spelled (bytes "%" ++ map bit_digit (bits l n)) (then p.put q.put) refl (omega (arith, length-map (bits l n) bit_digit, length_bits l n))

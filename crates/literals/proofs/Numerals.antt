-- Numerals: what one digit more does, and the bound of 63 bits.
use mathlib.Core.Path.{◌≡◌, refl, sym, ap, ◌∙◌}
use mathlib.Core.List.{List, [], ◌∷◌}
use Prim.Native.Nat.{ℕ, zero, suc, ◌+◌, ◌-◌, ◌*◌, ◌/◌, ◌^◌, ◌≤◌, ◌<◌}
use lib.Pow.{pow_mono, pow-add}
use native.Mathlib.Omega.{arith}
use native.Mathlib.Nat.{le_refl, le_trans, le-div_iff_mul-le, le-mul_of_pos_right}
use native.Mathlib.Decide.{dec_lt}
use lib.ListN.{length, take, drop, get_or}
use mathlib.Core.Bool.{Bool, true, false, cond}
use lib.Dec.{eqb}
use Rattle.std.proofs.lemmas.List.{take_rest}
use borrow.Author.Tests.{eqb-true}
use Rattle.std.specs.List.{prefix_len}
use Rattle.express.specs.Tokens.Lexis.{numeral, greatest, integer_value, binary_value}
use Rattle.literals.specs.Literal.{few, capped, FewBits}
use lib.Seq.{drop-cons}
use lib.ListN.{drop_of_length-le}
use native.Mathlib.Numerals.{add-one}

at_cons : (s : List ℕ) (i : ℕ) → i < length s → drop i s ≡ get_or s i 0 ∷ drop (i + 1) s
at_cons s i h = rw (add-one, drop-cons s i 0)

module _ (base : ℕ) (pos : 0 < base) where
  -- the test for one digit more is exact
  pub digit_over : (v d : ℕ) → d ≤ 255 → (greatest - d) / base < v → greatest < v * base + d
  digit_over v d small h = go (dec_lt greatest (v * base + d))
    where
      go : Dec (greatest < v * base + d) → greatest < v * base + d
      go (yes l) = l
      go (no n) =
          let fits : v * base ≤ greatest - d = omega (arith, n, small) in
          let back : v ≤ (greatest - d) / base = (le-div_iff_mul-le pos).1 fits in
          absurd (omega (arith, back, h))

  pub digit_fits : (v d : ℕ) → d ≤ 255 → v ≤ (greatest - d) / base → v * base + d ≤ greatest
  digit_fits v d small h = let fits : v * base ≤ greatest - d = (le-div_iff_mul-le pos).0 h in omega (arith, fits, small)

  -- a numeral only grows
  numeral_grows : (v : ℕ) (t : List ℕ) → v ≤ numeral base v t
  unfolding numeral
  numeral_grows v [] = le_refl v
  numeral_grows v (b ∷ t) = le_trans (omega (arith, le-mul_of_pos_right v pos)) (numeral_grows (v * base + (b - 48)) t)

  pub capped_over : (v : ℕ) (t : List ℕ) → greatest < v → greatest + 1 ≡ capped (numeral base v t)
  capped_over v t h = omega (arith, h, numeral_grows v t)

pub capped_fits : (v : ℕ) → v ≤ greatest → v ≡ capped v
capped_fits v h = omega (arith, h)

-- the digits from a place on, behind digits that stand for v
module _ (base v : ℕ) (t : List ℕ) (i : ℕ) where
  pub numeral_end : length t ≤ i → numeral base v (drop i t) ≡ v
  unfolding numeral
  numeral_end h = rw (drop_of_length-le t h)

  pub numeral_more : {d : ℕ} → i < length t → d ≡ get_or t i 0 - 48 → numeral base v (drop i t) ≡ numeral base (v * base + d) (drop (i + 1) t)
  unfolding numeral
  numeral_more h e = rw (at_cons t i h, e)

-- a numeral in two parts
pub numeral_split : (base v : ℕ) (t : List ℕ) (n : ℕ) → numeral base (numeral base v (take n t)) (drop n t) ≡ numeral base v t
unfolding numeral
numeral_split base v t zero = refl
numeral_split base v [] (suc n) = refl
numeral_split base v (b ∷ t) (suc n) = numeral_split base (v * base + (b - 48)) t n

-- zeros in front count for nothing
pub zeros_pass : (t : List ℕ) → numeral 10 0 (drop (prefix_len (λ b. eqb b 48) t) t) ≡ numeral 10 0 t
unfolding numeral
zeros_pass [] = refl
zeros_pass (b ∷ t) = by (eqb b 48) refl (zeros_pass t)
  where
    by : (x : Bool) → eqb b 48 ≡ x → numeral 10 0 (drop (prefix_len (λ b. eqb b 48) t) t) ≡ numeral 10 0 t
        → numeral 10 0 (drop (cond x (1 + prefix_len (λ b. eqb b 48) t) 0) (b ∷ t)) ≡ numeral 10 0 (b ∷ t)
    by true e more =
        let one : 1 + prefix_len (λ b. eqb b 48) t ≡ suc (prefix_len (λ b. eqb b 48) t) = omega arith in
        let none : 0 * 10 + (b - 48) ≡ 0 = omega (arith, eqb-true b 48 e) in
        rw (one, none) more
    by false e more = refl

pub integer_is : (t : List ℕ) {z : ℕ} → z ≡ prefix_len (λ b. eqb b 48) t → numeral 10 0 (take (length t - z) (drop z t)) ≡ integer_value t
unfolding integer_value
integer_is t {z} e = ap (numeral 10 0) (take_rest t z) ∙ rw e (zeros_pass t)

-- a binary without its `%`: a few digits first, and from their number on
pub binary_none : (t : List ℕ) → length t ≡ 0 → 0 ≡ capped (binary_value t)
unfolding binary_value numeral
binary_none t e = rw (drop_of_length-le t (let l : length t ≤ 1 = omega (arith, e) in l))

pub binary_is : (few : ℕ) {t bits : List ℕ} {x v : ℕ} → t ≡ x ∷ bits → FewBits (take few bits) v → numeral 2 v (take (length bits - few) (drop few bits)) ≡ binary_value t
unfolding binary_value
binary_is few {t} {bits} {x} {v} e F =
    ap (numeral 2 v) (take_rest bits few)
    ∙ ap (λ (n : ℕ). numeral 2 n (drop few bits)) F.is
    ∙ numeral_split 2 0 bits few
    ∙ ap (λ (u : List ℕ). numeral 2 0 (drop 1 u)) (sym e)

-- ---- A FEW DIGITS of base 2, each at most 255: their number, and 255 more, is at most 255 times the power of 2 of their count
pub record Few (t : List ℕ) (i v : ℕ) : Type 0 where
  pub small : v + 255 ≤ 255 * 2 ^ i
  pub is : numeral 2 v (drop i t) ≡ numeral 2 0 t

module _ {t : List ℕ} where
  pub few_starts : Few t 0 0
  few_starts = record { small = omega arith; is = refl }

  module _ {i v : ℕ} (F : Few t i v) where
    few_bound : (k : ℕ) → i ≤ k → v + 255 ≤ 255 * 2 ^ k
    few_bound k h = let p = pow_mono h in omega (arith, F.small, p)

    -- one digit more fits into 64 bits
    pub few_fits : i < length t → length t ≤ few → v * 2 + 255 < 18446744073709551616
    few_fits l h = let b = few_bound 54 (omega arith) in omega (arith, b)

    pub few_more : i < length t → {d : ℕ} → d ≡ get_or t i 0 - 48 → d ≤ 255 → Few t (i + 1) (v * 2 + d)
    few_more l {d} e q =
        let j : i + 1 ≡ 1 + i = omega arith in
        let w : 2 ^ (i + 1) ≡ 2 * 2 ^ i = ap (λ (x : ℕ). 2 ^ x) j ∙ pow-add 2 1 i in
        record { small = omega (arith, F.small, w); is = sym (numeral_more 2 v t i l e) ∙ F.is }

    pub few_ends : length t ≤ i → i ≤ length t → length t ≤ few → FewBits t v
    few_ends l u h =
        let b = few_bound 55 (omega arith) in
        record { below = omega (arith, b); is = sym (numeral_end 2 v t i l) ∙ F.is }

-- Laws of eight bytes as one number: what is done to all digits at once is done to each.
use mathlib.Core.Path.{◌≡◌, refl, sym, ap, ◌∙◌}
use mathlib.Core.Bool.{Bool, true, false, cond, not, ◌&&◌, ◌||◌, false≢true}
use mathlib.Core.List.{List}
use mathlib.Core.Logic.{◌⊎◌, inl, inr, ⊎_elim}
use Prim.Native.Nat.{ℕ, zero, suc, ◌+◌, ◌*◌, ◌-◌, ◌/◌, ◌%◌, ◌^◌, ◌≤◌, ◌<◌, min}
use native.Mathlib.Nat.{pow-suc, one-le-pow, one-mul, mod-eq_of_lt, mod-le, mod-one, lt_of_le_of_lt, le_trans, le_of_eq}
use native.Mathlib.Omega.{arith}
use borrow.Author.Tests.{eqb-true, eq-eqb}
use lib.Arith.{digits_div, digits_mod, mod-mul}
use lib.Bits.{bit_and, bit_or, bit_xor, differ, and_block, or_block, xor_block, and_le_l, and_le_r, or_lt, xor_lt, xor_add_and, xor_step}
use lib.Dec.{eqb}
use lib.ListN.{length, take, drop, get_or, length-take, length-drop, get_or-eq_default}
use lib.Pow.{pow-add, pow-lt, pow_pos}
use lib.Seq.{get_or-take, get_or-drop}
use Rattle.relations.proofs.Select.{and_fst, and_snd, or_cases, le_or}
use Rattle.express.specs.Tokens.Bytes.{lower}
use Rattle.spellings.specs.Blocks.{number_of, ones, no_letters, Eight, Agrees, SurelyAlike}
use Rattle.spellings.specs.Hash.{Four, IsBlock, Joins, Hashes}
use Rattle.spellings.proofs.Spellings.{agree, mask_more, block_is, hashing_starts, hashing_ends}

-- ---- tests of all bytes

unfoldable below : ℕ → (ℕ → Bool) → Bool
below zero p = true
below (suc n) p = p n && below n p

each : (n : ℕ) (p : ℕ → Bool) → below n p ≡ true → (k : ℕ) → k < n → p k ≡ true
unfolding below
each zero p e k l = absurd (omega arith)
each (suc n) p e k l =
    ⊎_elim (λ (h : n ≤ k). let z : k ≡ n = omega arith in rw z (and_fst (p n) (below n p) e)) (λ (h : k < n). each n p (and_snd (p n) (below n p) e) k h) (le_or n k)

-- a byte in which only the bit of the case is set
case_digit : (e : ℕ) → e < 256 → bit_and e 223 ≡ 0 → (e ≡ 0) ⊎ (e ≡ 32)
unfolding below
case_digit e l z =
    let t : not (eqb (bit_and e 223) 0) || (eqb e 0 || eqb e 32) ≡ true = each 256 (λ x. not (eqb (bit_and x 223) 0) || (eqb x 0 || eqb x 32)) refl e l in
    let u : eqb e 0 || eqb e 32 ≡ true = rw (eq-eqb (bit_and e 223) 0 z) at t in
    ⊎_elim (λ p. inl (eqb-true e 0 p)) (λ p. inr (eqb-true e 32 p)) (or_cases (eqb e 0) (eqb e 32) u)

-- ---- numbers that differ in no bit, or in the bit of the case

xor_none : (a b : ℕ) → bit_xor a b ≡ 0 → a ≡ b
xor_none a b z = omega (arith, z, xor_add_and a b, and_le_l a b, and_le_r a b)

lowest : (x p q : ℕ) → p < 2 → q < 2 → x * 2 + differ p q ≡ 1 → (x ≡ 0) × (p + q ≡ 1)
lowest x zero zero l m e = absurd (omega (arith, e))
lowest x zero (suc zero) l m e = (omega (arith, e), refl)
lowest x (suc zero) zero l m e = (omega (arith, e), refl)
lowest x (suc zero) (suc zero) l m e = absurd (omega (arith, e))
lowest x (suc (suc p)) q l m e = absurd (omega arith)
lowest x zero (suc (suc q)) l m e = absurd (omega arith)
lowest x (suc zero) (suc (suc q)) l m e = absurd (omega arith)

-- the other case of a letter
partner : ℕ → ℕ
partner a = cond (eqb (a / 32 % 2) 0) (a + 32) (a - 32)

partner_is : (a b : ℕ) → bit_xor a b ≡ 32 → b ≡ partner a
unfolding partner
partner_is a b z =
    let ea : a ≡ a / 32 * 32 + a % 32 = omega arith in
    let eb : b ≡ b / 32 * 32 + b % 32 = omega arith in
    let s : bit_xor (a / 32 * 32 + a % 32) (b / 32 * 32 + b % 32) ≡ bit_xor (a / 32) (b / 32) * 32 + bit_xor (a % 32) (b % 32) =
    xor_block 5 (a / 32) (b / 32) (a % 32) (b % 32) (omega arith) (omega arith) in
    let t : bit_xor (a / 32) (b / 32) * 32 + bit_xor (a % 32) (b % 32) ≡ 32 = sym s ∙ ap (λ (x : ℕ). bit_xor x (b / 32 * 32 + b % 32)) (sym ea) ∙ ap (bit_xor a) (sym eb) ∙ z in
    let m = xor_lt 5 (a % 32) (b % 32) (omega arith) (omega arith) in
    let low : a % 32 ≡ b % 32 = xor_none (a % 32) (b % 32) (omega (arith, t, m)) in
    let high : bit_xor (a / 32) (b / 32) ≡ 1 = omega (arith, t, m) in
    let h = lowest (bit_xor (a / 32 / 2) (b / 32 / 2)) (a / 32 % 2) (b / 32 % 2) (omega arith) (omega arith) (sym (xor_step (a / 32) (b / 32)) ∙ high) in
    let top : a / 32 / 2 ≡ b / 32 / 2 = xor_none (a / 32 / 2) (b / 32 / 2) h.0 in
    by (a / 32 % 2) refl low top h.1
  where
    by : (p : ℕ) → a / 32 % 2 ≡ p → a % 32 ≡ b % 32 → a / 32 / 2 ≡ b / 32 / 2 → a / 32 % 2 + b / 32 % 2 ≡ 1 → b ≡ cond (eqb (a / 32 % 2) 0) (a + 32) (a - 32)
    by zero e low top h = rw (eq-eqb (a / 32 % 2) 0 e) (omega (arith, e, low, top, h))
    by (suc zero) e low top h = rw e (omega (arith, e, low, top, h))
    by (suc (suc p)) e low top h = absurd (omega arith)

abbrev no_letter : ℕ → ℕ
no_letter a = bit_or (bit_or (255 - (bit_and a 95 + 63)) (bit_and a 95 + 37)) a

pub letter_pair : (a b : ℕ) → a < 256 → b < 256 → bit_and (bit_xor a b) 223 ≡ 0 → bit_and (bit_xor a b * 4) (no_letter a) ≡ 0 → lower a ≡ lower b
unfolding below partner lower
letter_pair a b la lb z w =
    ⊎_elim
    (λ (q : bit_xor a b ≡ 0). ap lower (xor_none a b q))
    (λ (q : bit_xor a b ≡ 32).
    let t : not (eqb (bit_and 128 (no_letter a)) 0) || eqb (lower a) (lower (partner a)) ≡ true =
    each 256 (λ x. not (eqb (bit_and 128 (no_letter x)) 0) || eqb (lower x) (lower (partner x))) refl a la in
    let v : bit_and 128 (no_letter a) ≡ 0 = ap (λ (x : ℕ). bit_and (x * 4) (no_letter a)) (sym q) ∙ w in
    let u : eqb (lower a) (lower (partner a)) ≡ true = rw (eq-eqb (bit_and 128 (no_letter a)) 0 v) at t in
    eqb-true (lower a) (lower (partner a)) u ∙ ap lower (sym (partner_is a b q)))
    (case_digit (bit_xor a b) (xor_lt 8 a b la lb) z)

-- ---- digit by digit

no_letters_step : (m A a : ℕ) → a < 256 → no_letters (suc m) (A * 256 + a) ≡ no_letters m A * 256 + no_letter a
unfolding no_letters ones
no_letters_step m A a l =
    let O = ones m in
    let v = bit_and A (95 * O) in
    let d = bit_and a 95 in
    let k : 95 * (O * 256 + 1) ≡ 95 * O * 256 + 95 = omega arith in
    let u : bit_and (A * 256 + a) (95 * (O * 256 + 1)) ≡ v * 256 + d = ap (bit_and (A * 256 + a)) k ∙ and_block 8 A (95 * O) a 95 l (omega arith) in
    let bd = and_le_r a 95 in
    let bv = and_le_r A (95 * O) in
    let p : 255 * (O * 256 + 1) - (v * 256 + d + 63 * (O * 256 + 1)) ≡ (255 * O - (v + 63 * O)) * 256 + (255 - (d + 63)) = omega (arith, bd, bv) in
    let q : v * 256 + d + 37 * (O * 256 + 1) ≡ (v + 37 * O) * 256 + (d + 37) = omega arith in
    rw (u, p, q)
    (ap (λ (x : ℕ). bit_or x (A * 256 + a)) (or_block 8 (255 * O - (v + 63 * O)) (v + 37 * O) (255 - (d + 63)) (d + 37) (omega arith) (omega (arith, bd)))
    ∙ or_block 8 (bit_or (255 * O - (v + 63 * O)) (v + 37 * O)) A (bit_or (255 - (d + 63)) (d + 37)) a (or_lt 8 (255 - (d + 63)) (d + 37) (omega arith) (omega (arith, bd))) l)

-- the low digit of the first digits of a number
first_step : (n Y e : ℕ) → e < 256 → (Y * 256 + e) % 256 ^ suc n ≡ Y % 256 ^ n * 256 + e
first_step n Y e l =
    ap (λ (x : ℕ). (Y * 256 + e) % x) (pow-suc 256 n)
    ∙ mod-mul (Y * 256 + e) {m = 256 ^ n} {c = 256} (one-le-pow n 256 (omega arith)) (omega arith)
    ∙ ap (λ (x : ℕ). x % 256 ^ n * 256 + (Y * 256 + e) % 256) (digits_div Y {m = 256} {r = e} l)
    ∙ ap (λ (x : ℕ). Y % 256 ^ n * 256 + x) (digits_mod Y {m = 256} {r = e} l)

no_case_step : (m X e : ℕ) → e < 256 → bit_and (X * 256 + e) (223 * ones (suc m)) ≡ bit_and X (223 * ones m) * 256 + bit_and e 223
unfolding ones
no_case_step m X e l =
    let k : 223 * (ones m * 256 + 1) ≡ 223 * ones m * 256 + 223 = omega arith in ap (bit_and (X * 256 + e)) k ∙ and_block 8 X (223 * ones m) e 223 l (omega arith)

-- two numbers of m digits that differ, in the first n of these, in the case of letters alone
pub agreed : (m n : ℕ) (f g : ℕ → ℕ) → ((j : ℕ) → f j < 256) → ((j : ℕ) → g j < 256) → n ≤ m →
    bit_and (bit_xor (number_of m f) (number_of m g) % 256 ^ n) (223 * ones m) ≡ 0 →
    bit_and (bit_xor (number_of m f) (number_of m g) % 256 ^ n * 4) (no_letters m (number_of m f)) ≡ 0 → (j : ℕ) → j < n → lower (f j) ≡ lower (g j)
unfolding number_of
agreed zero n f g hf hg l z w = λ j h. absurd (omega arith)
agreed (suc m) zero f g hf hg l z w = λ j h. absurd (omega arith)
agreed (suc m) (suc n) f g hf hg l z w = by (λ c d. agreed m n (λ i. f (suc i)) (λ i. g (suc i)) (λ i. hf (suc i)) (λ i. hg (suc i)) (omega arith) c d)
  where
    F : ℕ
    F = number_of m (λ j. f (suc j))

    G : ℕ
    G = number_of m (λ j. g (suc j))

    X : ℕ
    X = bit_xor F G % 256 ^ n

    e : ℕ
    e = bit_xor (f 0) (g 0)

    small : e < 256
    small = xor_lt 8 (f 0) (g 0) (hf 0) (hg 0)

    split : bit_xor (F * 256 + f 0) (G * 256 + g 0) % 256 ^ suc n ≡ X * 256 + e
    split = ap (λ (x : ℕ). x % 256 ^ suc n) (xor_block 8 F G (f 0) (g 0) (hf 0) (hg 0)) ∙ first_step n (bit_xor F G) e small

    both : bit_and X (223 * ones m) * 256 + bit_and e 223 ≡ 0
    both = sym (no_case_step m X e small) ∙ ap (λ (x : ℕ). bit_and x (223 * ones (suc m))) (sym split) ∙ z

    high_case : bit_and X (223 * ones m) ≡ 0
    high_case = omega (arith, both)

    low_case : bit_and e 223 ≡ 0
    low_case = omega (arith, both)

    quarter : e * 4 < 256
    quarter = ⊎_elim (λ (q : e ≡ 0). omega (arith, q)) (λ (q : e ≡ 32). omega (arith, q)) (case_digit e small low_case)

    letter_small : no_letter (f 0) < 256
    letter_small =
        let d = and_le_r (f 0) 95 in
        let h = or_lt 8 (255 - (bit_and (f 0) 95 + 63)) (bit_and (f 0) 95 + 37) (omega arith) (omega (arith, d)) in
        or_lt 8 (bit_or (255 - (bit_and (f 0) 95 + 63)) (bit_and (f 0) 95 + 37)) (f 0) h (hf 0)

    four_times : X * 4 * 256 + e * 4 ≡ (X * 256 + e) * 4
    four_times = omega arith

    both_letters : bit_and (X * 4) (no_letters m F) * 256 + bit_and (e * 4) (no_letter (f 0)) ≡ 0
    both_letters =
        sym (and_block 8 (X * 4) (no_letters m F) (e * 4) (no_letter (f 0)) quarter letter_small)
        ∙ ap (λ (x : ℕ). bit_and x (no_letters m F * 256 + no_letter (f 0))) four_times
        ∙ ap (bit_and ((X * 256 + e) * 4)) (sym (no_letters_step m F (f 0) (hf 0)))
        ∙ ap (λ (x : ℕ). bit_and (x * 4) (no_letters (suc m) (F * 256 + f 0))) (sym split)
        ∙ w

    high_letter : bit_and (X * 4) (no_letters m F) ≡ 0
    high_letter = omega (arith, both_letters)

    low_letter : bit_and (e * 4) (no_letter (f 0)) ≡ 0
    low_letter = omega (arith, both_letters)

    by :
        (bit_and X (223 * ones m) ≡ 0 → bit_and (X * 4) (no_letters m F) ≡ 0 → (j : ℕ) → j < n → lower (f (suc j)) ≡ lower (g (suc j))) →
        (j : ℕ) → j < suc n → lower (f j) ≡ lower (g j)
    by rest zero h = letter_pair (f 0) (g 0) (hf 0) (hg 0) low_case low_letter
    by rest (suc j) h = rest high_case high_letter j (omega arith)

-- four times such a number has room
pub case_small : (m X : ℕ) → X < 256 ^ m → bit_and X (223 * ones m) ≡ 0 → X ≤ 32 * ones m
unfolding ones
case_small zero X l z = omega (arith, l)
case_small (suc m) X l z =
    let p : X ≡ X / 256 * 256 + X % 256 = omega arith in
    let b : bit_and (X / 256) (223 * ones m) * 256 + bit_and (X % 256) 223 ≡ 0 =
    sym (no_case_step m (X / 256) (X % 256) (omega arith)) ∙ ap (λ (x : ℕ). bit_and x (223 * ones (suc m))) (sym p) ∙ z in
    let r : X < 256 ^ m * 256 = rw (pow-suc 256 m) at l in
    let h = case_small m (X / 256) (omega (arith, r)) (omega (arith, b)) in
    ⊎_elim (λ (q : X % 256 ≡ 0). omega (arith, q, h)) (λ (q : X % 256 ≡ 32). omega (arith, q, h)) (case_digit (X % 256) (omega arith) (omega (arith, b)))

-- ---- what the functions over such numbers give

power : (n : ℕ) → 2 ^ (8 * n) ≡ 256 ^ n
power zero = refl
power (suc n) =
    let e : 8 * suc n ≡ 8 * n + 8 = omega arith in ap (λ (x : ℕ). 2 ^ x) e ∙ pow-add 2 (8 * n) 8 ∙ ap (λ (x : ℕ). x * 256) (power n) ∙ sym (pow-suc 256 n)

module _ (n : ℕ) (h : n < 8) where
  shifted : 1 * 2 ^ (8 * n) % 2 ^ 64 ≡ 2 ^ (8 * n)
  shifted = rw (one-mul (2 ^ (8 * n))) (mod-eq_of_lt (pow-lt {i = 8 * n} {j = 64} (omega arith)))

  pub some_bytes : 0 < 1 * 2 ^ (8 * n) % 2 ^ 64
  some_bytes = rw shifted (pow_pos (8 * n))

  pub first_few : (x : ℕ) → x % (1 * 2 ^ (8 * n) % 2 ^ 64) ≡ x % 256 ^ min n 8
  first_few x = let m : min n 8 ≡ n = omega arith in rw (shifted, power n, m) refl

pub first_all : (x n : ℕ) → x < 18446744073709551616 → 8 ≤ n → x ≡ x % 256 ^ min n 8
first_all x n l h = let m : min n 8 ≡ 8 = omega arith in rw m (sym (mod-eq_of_lt l))

pub room_for_four : {X : ℕ} (a b n : ℕ) → a < 18446744073709551616 → b < 18446744073709551616 → X ≡ bit_xor a b % 256 ^ min n 8 →
    bit_and X 16131858542891098079 ≡ 0 → X * 4 < 18446744073709551616
unfolding ones
room_for_four {X} a b n la lb e z =
    let l : X < 256 ^ 8 = lt_of_le_of_lt (le_trans (le_of_eq e) (mod-le (bit_xor a b) (256 ^ min n 8))) (xor_lt 64 a b la lb) in
    let h = case_small 8 X l z in omega (arith, h)

pub agrees : {X W : ℕ} (a b n : ℕ) → X ≡ bit_xor a b % 256 ^ min n 8 → bit_and X 16131858542891098079 ≡ 0 → W ≡ no_letters 8 a → Agrees a b n (eqb (bit_and (X * 4) W) 0)
unfolding ones
agrees {X} {W} a b n e z w =
    record {
      is = λ t f g hf hg ea eb j l h.
          let d : X ≡ bit_xor (number_of 8 f) (number_of 8 g) % 256 ^ min n 8 = e ∙ ap (λ (x : ℕ). bit_xor x b % 256 ^ min n 8) ea ∙ ap (λ (x : ℕ). bit_xor (number_of 8 f) x % 256 ^ min n 8) eb in
          let v : W ≡ no_letters 8 (number_of 8 f) = w ∙ ap (no_letters 8) ea in
          agreed 8 (min n 8) f g hf hg (omega arith) (ap (λ (x : ℕ). bit_and x 16131858542891098079) (sym d) ∙ z)
          (ap (λ (x : ℕ). bit_and (x * 4) (no_letters 8 (number_of 8 f))) (sym d) ∙ ap (bit_and (X * 4)) (sym v) ∙ eqb-true (bit_and (X * 4) W) 0 t) j (omega arith);
    }

pub agrees_not : {a b n : ℕ} → Agrees a b n false
agrees_not = record { is = λ e. absurd (false≢true e) }

pub eight_is : (xs : List ℕ) (k : ℕ) {a b : ℕ} → Four xs k a → Four xs (k + 4) b → Eight xs k (a + b * 4294967296)
unfolding number_of
eight_is xs k {a} {b} F G =
    let z : k + 0 ≡ k = omega arith in
    let e5 : k + 4 + 1 ≡ k + 5 = omega arith in
    let e6 : k + 4 + 2 ≡ k + 6 = omega arith in
    let e7 : k + 4 + 3 ≡ k + 7 = omega arith in
    let g = rw (e5, e6, e7) at G.is in
    record { is = rw z (omega (arith, F.is, g)) }

-- ---- parts of the bytes that are spelled alike, as far as they were compared

pub record Comparing (xs : List ℕ) (p q n i : ℕ) : Type 0 where
  pub one : p + n + 8 ≤ length xs
  pub other : q + n + 8 ≤ length xs
  pub alike : (j : ℕ) → j < i → j < n → lower (get_or xs (p + j) 0) ≡ lower (get_or xs (q + j) 0)

pub comparing_starts : {xs : List ℕ} {p q n : ℕ} → p + n + 8 ≤ length xs → q + n + 8 ≤ length xs → Comparing xs p q n 0
comparing_starts a b = record { one = a; other = b; alike = λ j l h. absurd (omega arith) }

pub comparing_goes_on :
    {xs : List ℕ} {p q n i a b : ℕ} {r : Bool} → ((j : ℕ) → get_or xs j 0 < 256) → Comparing xs p q n i → Eight xs (p + i) a → Eight xs (q + i) b → Agrees a b (n - i) r → r ≡ true →
    Comparing xs p q n (i + 8)
comparing_goes_on {xs} {p} {q} {n} {i} small C A B G t =
    record {
      one = C.one;
      other = C.other;
      alike = λ j l h. ⊎_elim
          (λ (m : i ≤ j).
          let u : p + i + (j - i) ≡ p + j = omega arith in
          let v : q + i + (j - i) ≡ q + j = omega arith in
          let y = G.is t (λ k. get_or xs (p + i + k) 0) (λ k. get_or xs (q + i + k) 0) (λ k. small (p + i + k)) (λ k. small (q + i + k)) A.is B.is (j - i) (omega arith) (omega arith) in
          rw (u, v) at y)
          (λ (m : j < i). C.alike j m h)
          (le_or i j);
    }

part_length : (xs : List ℕ) (p n : ℕ) → p + n + 8 ≤ length xs → length (take n (drop p xs)) ≡ n
part_length xs p n h = length-take n (drop p xs) ∙ simp length-drop (omega arith)

part_at : (xs : List ℕ) (p n k : ℕ) → k < n → get_or (take n (drop p xs)) k 0 ≡ get_or xs (p + k) 0
part_at xs p n k h = get_or-take n (drop p xs) k 0 h ∙ get_or-drop p xs k 0

pub comparing_ends : {xs : List ℕ} {p q n i : ℕ} → Comparing xs p q n i → n ≤ i → SurelyAlike xs p q n true
comparing_ends {xs} {p} {q} {n} {i} C l =
    record {
      is = λ t. agree (take n (drop p xs)) (take n (drop q xs)) (part_length xs p n C.one ∙ sym (part_length xs q n C.other))
          (λ k h.
          let m : k < n = rw (part_length xs p n C.one) at h in
          ap lower (part_at xs p n k m) ∙ C.alike k (omega arith) m ∙ sym (ap lower (part_at xs q n k m)));
    }

pub told : (b : Bool) → not b ≡ false → b ≡ true
told true e = refl
told false e = absurd (false≢true (sym e))

pub alike_not : {xs : List ℕ} {p q n : ℕ} → SurelyAlike xs p q n false
alike_not = record { is = λ e. absurd (false≢true e) }

-- ---- the hash of a short word: its bytes are the first of eight, and behind them are zeros

zeros : (m : ℕ) (k : ℕ → ℕ) → ((j : ℕ) → k j ≡ 0) → number_of m k ≡ 0
unfolding number_of
zeros zero k z = refl
zeros (suc m) k z = let h = zeros m (λ j. k (suc j)) (λ j. z (suc j)) in omega (arith, h, z 0)

first_number : (m n : ℕ) (f k : ℕ → ℕ) → ((j : ℕ) → f j < 256) → n ≤ m → ((j : ℕ) → j < n → k j ≡ f j) → ((j : ℕ) → n ≤ j → k j ≡ 0) → number_of m f % 256 ^ n ≡ number_of m k
unfolding number_of
first_number zero zero f k hf l a b = refl
first_number zero (suc n) f k hf l a b = absurd (omega arith)
first_number (suc m) zero f k hf l a b = mod-one (number_of m (λ j. f (suc j)) * 256 + f 0) ∙ sym (zeros (suc m) k (λ j. b j (omega arith)))
first_number (suc m) (suc n) f k hf l a b =
    first_step n (number_of m (λ j. f (suc j))) (f 0) (hf 0)
    ∙ ap (λ (x : ℕ). x * 256 + f 0) (first_number m n (λ j. f (suc j)) (λ j. k (suc j)) (λ j. hf (suc j)) (omega arith) (λ j h. a (suc j) (omega arith)) (λ j h. b (suc j) (omega arith)))
    ∙ ap (λ (x : ℕ). number_of m (λ j. k (suc j)) * 256 + x) (sym (a 0 (omega arith)))

low_number : (m : ℕ) (k : ℕ → ℕ) → ((j : ℕ) → k j < 256) → bit_and (number_of m k) (31 * ones m) ≡ number_of m (λ j. k j % 32)
unfolding number_of ones
low_number zero k h = refl
low_number (suc m) k h =
    let e : 31 * (ones m * 256 + 1) ≡ 31 * ones m * 256 + 31 = omega arith in
    ap (bit_and (number_of m (λ j. k (suc j)) * 256 + k 0)) e
    ∙ mask_more (number_of m (λ j. k (suc j))) (31 * ones m) (k 0) (h 0)
    ∙ ap (λ (x : ℕ). x * 256 + k 0 % 32) (low_number m (λ j. k (suc j)) (λ j. h (suc j)))

halves : (a b c d e f g h : ℕ) → a < 32 → b < 32 → c < 32 → d < 32 → e < 32 → f < 32 → g < 32 → h < 32 → {z : ℕ} →
    z ≡ ((((((((0 * 256 + h) * 256 + g) * 256 + f) * 256 + e) * 256 + d) * 256 + c) * 256 + b) * 256 + a) →
    (z % 4294967296 ≡ a + b * 256 + c * 65536 + d * 16777216) × (z / 4294967296 ≡ e + f * 256 + g * 65536 + h * 16777216)
halves a b c d e f g h la lb lc ld le lf lg lh q = (omega (arith, q), omega (arith, q))

module _ (xs : List ℕ) (at n : ℕ) (small : (j : ℕ) → get_or xs j 0 < 256) (short : n ≤ 8) where
  abbrev short_word : List ℕ
  short_word = take n (drop at xs)

  word_byte : (j : ℕ) → get_or short_word j 0 < 256
  word_byte j =
      ⊎_elim (λ (l : n ≤ j). let e = past j l in omega (arith, e)) (λ (l : j < n). let e = part_at xs at n j l in omega (arith, e, small (at + j))) (le_or n j)
    where
      past : (j : ℕ) → n ≤ j → get_or (take n (drop at xs)) j 0 ≡ 0
      past j l = get_or-eq_default (take n (drop at xs)) 0 (let t = length-take n (drop at xs) in omega (arith, t))

  pub short_blocks : {e y : ℕ} → Eight xs at e → y ≡ e % 256 ^ min n 8 →
      IsBlock short_word 0 (bit_and y 2242545357980376863 % 4294967296) × IsBlock short_word 4 (bit_and y 2242545357980376863 / 4294967296)
  unfolding number_of ones
  short_blocks {e} {y} E q =
      let m : min n 8 ≡ n = omega arith in
      let first : y ≡ number_of 8 (λ j. get_or short_word j 0) =
      q ∙ rw m (ap (λ (x : ℕ). x % 256 ^ n) E.is
      ∙ first_number 8 n (λ j. get_or xs (at + j) 0) (λ j. get_or short_word j 0) (λ j. small (at + j)) short (λ j l. part_at xs at n j l)
      (λ j l. get_or-eq_default short_word 0 (let t = length-take n (drop at xs) in omega (arith, t)))) in
      let low : bit_and y 2242545357980376863 ≡ number_of 8 (λ j. get_or short_word j 0 % 32) =
      ap (λ (x : ℕ). bit_and x 2242545357980376863) first ∙ low_number 8 (λ j. get_or short_word j 0) word_byte in
      let h = halves (get_or short_word 0 0 % 32) (get_or short_word 1 0 % 32) (get_or short_word 2 0 % 32) (get_or short_word 3 0 % 32) (get_or short_word 4 0 % 32)
      (get_or short_word 5 0 % 32) (get_or short_word 6 0 % 32) (get_or short_word 7 0 % 32) (omega arith) (omega arith) (omega arith) (omega arith) (omega arith)
      (omega arith) (omega arith) (omega arith) low in
      (block_is short_word 0 h.0, block_is short_word 4 h.1)

  pub short_hashes : {e y g r : ℕ} → Eight xs at e → y ≡ e % 256 ^ min n 8 → Joins 0 (bit_and y 2242545357980376863 % 4294967296) g →
      Joins g (bit_and y 2242545357980376863 / 4294967296) r → Hashes short_word r
  short_hashes E q J K =
      let B = short_blocks E q in
      hashing_ends (hashing_starts B.0 J B.1 K) (let t = length-take n (drop at xs) in omega (arith, t))

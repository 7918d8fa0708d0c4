-- Bits of a word, of two words that are joined, and of a column in which a word is joined with another.
use mathlib.Core.Path.{◌≡◌, sym, ap, ◌∙◌}
use mathlib.Core.Logic.{◌⊎◌, inl, inr, by_cases, ⊎_elim}
use mathlib.Core.Bool.{true}
use mathlib.Core.List.{List}
use Prim.Native.Nat.{ℕ, suc, ◌+◌, ◌-◌, ◌*◌, ◌/◌, ◌%◌, ◌^◌, ◌<◌, max}
use native.Mathlib.Nat.{one-mul, mod-lt, mod-eq_of_lt, pow-suc, mul-mod_left, div-eq_of_lt, zero-div}
use native.Mathlib.Decide.{ℕ_discrete, dec_lt}
use native.Mathlib.Omega.{arith}
use borrow.Author.Tests.{eqb-true, eq-eqb}
use lib.Pow.{pow-lt, pow-add, shl-shr}
use lib.Arith.{digits_mod}
use lib.Bits.{bit_or, or_step, or_shr}
use lib.ListN.{length, get_or, set, replicate, get_or-replicate, length-replicate, get_or-eq_default}
use lib.Seq.{get_or-set_same, get_or-set_other, set_out}
use Rattle.bit_rows.specs.Bits.{word, bit, with_bit}

-- a bit shifted to its place is a word
pub shifted : (i : ℕ) → 1 * 2 ^ (i % word) % 4294967296 ≡ 2 ^ (i % word)
shifted i = ap (λ (x : ℕ). x % 4294967296) (one-mul (2 ^ (i % word))) ∙ mod-eq_of_lt (pow-lt {j = 32} (omega arith))

-- ---- bits of a word
bit_below : (a j : ℕ) → a / 2 ^ j % 2 < 2
bit_below a j = mod-lt (a / 2 ^ j) (omega arith)

-- the last bit of two words joined
or_last : (a b : ℕ) → bit_or a b % 2 ≡ max (a % 2) (b % 2)
or_last a b = ap (λ (x : ℕ). x % 2) (or_step a b) ∙ digits_mod (bit_or (a / 2) (b / 2)) (omega arith)

or_bit : (a b j : ℕ) → bit_or a b / 2 ^ j % 2 ≡ max (a / 2 ^ j % 2) (b / 2 ^ j % 2)
or_bit a b j = ap (λ (x : ℕ). x % 2) (or_shr a b j) ∙ or_last (a / 2 ^ j) (b / 2 ^ j)

-- a bit of two words joined is one of either
or_from : (a b j : ℕ) → bit_or a b / 2 ^ j % 2 ≡ 1 → (a / 2 ^ j % 2 ≡ 1) ⊎ (b / 2 ^ j % 2 ≡ 1)
or_from a b j e =
    by_cases (ℕ_discrete (a / 2 ^ j % 2) 1) inl
    (λ n. inr (omega (arith, n, sym (or_bit a b j) ∙ e, bit_below a j, bit_below b j)))

-- a word that gains nothing has all bits of the other
or_same : (a b j : ℕ) → bit_or a b ≡ a → b / 2 ^ j % 2 ≡ 1 → a / 2 ^ j % 2 ≡ 1
or_same a b j q e =
    let s : a / 2 ^ j % 2 ≡ max (a / 2 ^ j % 2) (b / 2 ^ j % 2) = ap (λ (x : ℕ). x / 2 ^ j % 2) (sym q) ∙ or_bit a b j in
    omega (arith, s, e, bit_below a j)

-- a power of two has one bit
even_power : (d j : ℕ) → 2 ^ (suc d + j) / 2 ^ j % 2 ≡ 0
even_power d j =
    ap (λ (x : ℕ). x / 2 ^ j % 2) (pow-add 2 (suc d) j) ∙ ap (λ (x : ℕ). x % 2) (shl-shr (2 ^ suc d) j ∙ pow-suc 2 d) ∙ mul-mod_left (2 ^ d) 2

power_bit : (k j : ℕ) → 2 ^ k / 2 ^ j % 2 ≡ 1 → j ≡ k
power_bit k j e =
    by_cases (dec_lt j k)
    (λ l.
    let q : k ≡ suc (k - j - 1) + j = omega arith in
    absurd (omega (arith, even_power (k - j - 1) j, sym (ap (λ (x : ℕ). 2 ^ x / 2 ^ j % 2) q) ∙ e)))
    (λ n.
    by_cases (dec_lt k j)
    (λ l. absurd (omega (arith, e, div-eq_of_lt (pow-lt l))))
    (λ m. omega (arith, n, m)))

-- ---- bits of a column
bit_one : (rows : List ℕ) (i : ℕ) → bit rows i ≡ true → get_or rows (i / word) 0 / 2 ^ (i % word) % 2 ≡ 1
unfolding bit
bit_one rows i e = eqb-true _ _ e

one_bit : (rows : List ℕ) (i : ℕ) → get_or rows (i / word) 0 / 2 ^ (i % word) % 2 ≡ 1 → bit rows i ≡ true
unfolding bit
one_bit rows i e = eq-eqb _ _ e

-- the same, by word and place
at_one : (rows : List ℕ) (w i : ℕ) → i < word → bit rows (w * word + i) ≡ true → get_or rows w 0 / 2 ^ i % 2 ≡ 1
at_one rows w i l e =
    let q : (w * word + i) / word ≡ w = omega arith in
    let r : (w * word + i) % word ≡ i = omega arith in
    rw (q, r) at (bit_one rows (w * word + i) e)

one_at : (rows : List ℕ) (w i : ℕ) → i < word → get_or rows w 0 / 2 ^ i % 2 ≡ 1 → bit rows (w * word + i) ≡ true
one_at rows w i l e =
    let q : (w * word + i) / word ≡ w = omega arith in
    let r : (w * word + i) % word ≡ i = omega arith in
    one_bit rows (w * word + i) (rw (q, r) e)

-- a bit of the column in which word w is joined with x: it was there, or is one of x
pub bit_joined : (rows : List ℕ) (w x i : ℕ) → bit (set rows w (bit_or (get_or rows w 0) x)) i ≡ true → (bit rows i ≡ true) ⊎ ((i / word ≡ w) × (x / 2 ^ (i % word) % 2 ≡ 1))
bit_joined rows w x i e =
    let after = set rows w (bit_or (get_or rows w 0) x) in
    by_cases (ℕ_discrete (i / word) w)
    (λ z.
    by_cases (dec_lt w (length rows))
    (λ l.
    let at : get_or after (i / word) 0 ≡ bit_or (get_or rows w 0) x = ap (λ (k : ℕ). get_or after k 0) z ∙ get_or-set_same rows w _ 0 l in
    ⊎_elim
    (λ a. inl (one_bit rows i (ap (λ (k : ℕ). get_or rows k 0 / 2 ^ (i % word) % 2) z ∙ a)))
    (λ b. inr (z, b))
    (or_from (get_or rows w 0) x (i % word) (sym (ap (λ (y : ℕ). y / 2 ^ (i % word) % 2) at) ∙ bit_one after i e)))
    (λ n. inl (sym (ap (λ (r : List ℕ). bit r i) (set_out rows w _ (omega (arith, n)))) ∙ e)))
    (λ n. inl (one_bit rows i (sym (ap (λ (y : ℕ). y / 2 ^ (i % word) % 2) (get_or-set_other rows w (i / word) _ 0 n)) ∙ bit_one after i e)))

pub bit_set : (rows : List ℕ) (j i : ℕ) → bit (with_bit rows j) i ≡ true → (bit rows i ≡ true) ⊎ (i ≡ j)
unfolding with_bit
bit_set rows j i e =
    ⊎_elim inl (λ w. let s = power_bit (j % word) (i % word) w.1 in inr (omega (arith, w.0, s)))
    (bit_joined rows (j / word) (2 ^ (j % word)) i e)

-- where word w is joined with word v, a bit that was not there stands in word v at the same place
pub bit_merged : (rows : List ℕ) (w v i : ℕ) → bit (set rows w (bit_or (get_or rows w 0) (get_or rows v 0))) i ≡ true
    → (bit rows i ≡ true) ⊎ ((i / word ≡ w) × (bit rows (v * word + i % word) ≡ true))
bit_merged rows w v i e = ⊎_elim inl (λ a. inr (a.0, one_at rows v (i % word) (omega arith) a.1)) (bit_joined rows w (get_or rows v 0) i e)

-- where word w gains nothing from word v, it has its bits
pub bit_kept : (rows : List ℕ) (w v i : ℕ) → i < word → bit_or (get_or rows w 0) (get_or rows v 0) ≡ get_or rows w 0 → bit rows (v * word + i) ≡ true → bit rows (w * word + i) ≡ true
bit_kept rows w v i l q e = one_at rows w i l (or_same (get_or rows w 0) (get_or rows v 0) i q (at_one rows v i l e))

-- no bit is set among zeros
zeros_at : (n k : ℕ) → get_or {A = ℕ} (replicate n 0) k 0 ≡ 0
zeros_at n k =
    by_cases (dec_lt k n) (λ l. get_or-replicate n k 0 0 l)
    (λ l. get_or-eq_default (replicate n 0) 0 {n = k} (omega (arith, l, length-replicate {A = ℕ} n 0)))

pub bit_zeros : (n i : ℕ) → bit (replicate n 0) i ≡ true → ⊥
bit_zeros n i e =
    let q = ap (λ (x : ℕ). x / 2 ^ (i % word) % 2) (zeros_at n (i / word)) ∙ ap (λ (x : ℕ). x % 2) (zero-div (2 ^ (i % word))) in
    omega (arith, q, bit_one (replicate n 0) i e)

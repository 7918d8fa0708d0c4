-- Lists of bits and their numbers: each of `bits` and `number` undoes the other (`number_bits`, `bits_number`).
use mathlib.Core.Path.{◌≡◌, refl, sym, ap, ◌∙◌}
use mathlib.Core.Bool.{Bool, true, false}
use mathlib.Core.List.{List, [], ◌∷◌, ◌++◌}
use Prim.Native.Nat.{ℕ, zero, suc, ◌+◌, ◌-◌, ◌*◌, ◌/◌, ◌%◌, ◌^◌, ◌≤◌, ◌<◌}
use native.Mathlib.Nat.{zero-add, add_comm, suc-add, zero-mul, mod-one, mod-lt, mod-eq_of_lt, mul_assoc, add-mul, add_assoc, pow-suc, pow-succ'}
use native.Mathlib.Omega.{arith}
use lib.Arith.{mod-mul}
use lib.Dec.{eqb, lit<}
use lib.ListN.{length, length-append}
use lib.Pow.{pow_pos, pow-add, high, low, field, mod-mod-pow, shr-shr}
use Rattle.express.specs.Semantics.Bits.{bit, number, bits}

-- ---- a number's list, and the number of that
pub length_bits : (l n : ℕ) → length (bits l n) ≡ l
unfolding bits
length_bits zero n = refl
length_bits (suc l) n = ap suc (length_bits l n)

bit_is : (r : ℕ) → r < 2 → bit (eqb r 1) ≡ r
bit_is zero h = refl
bit_is (suc zero) h = refl
bit_is (suc (suc r)) h = absurd (omega arith)

pub number_mod : (l n : ℕ) → number (bits l n) ≡ n % 2 ^ l
unfolding bits number
number_mod zero n = sym (mod-one n)
number_mod (suc l) n =
    rw (length_bits l n, number_mod l n, bit_is (n / 2 ^ l % 2) (mod-lt (n / 2 ^ l) (omega arith)), pow-succ' 2 l)
    (sym (mod-mul n {m = 2} {c = 2 ^ l} (omega arith) (pow_pos l)))

pub number_bits : (l n : ℕ) → n < 2 ^ l → number (bits l n) ≡ n
number_bits l n h = number_mod l n ∙ mod-eq_of_lt h

-- ---- a list's number, and the list of that
pub number_lt : (xs : List Bool) → number xs < 2 ^ length xs
unfolding number
number_lt [] = lit< tt
number_lt (true ∷ xs) = rw (pow-suc 2 (length xs)) (omega (arith, number_lt xs))
number_lt (false ∷ xs) = rw (pow-suc 2 (length xs)) (omega (arith, number_lt xs))

head_same : (j l m : ℕ) → m % 2 ^ (suc j + l) / 2 ^ l % 2 ≡ m / 2 ^ l % 2
head_same j l m =
    let e : suc j ≡ j + 1 = omega arith in
    ap (λ (n : ℕ). n % 2) (field m (suc j) l) ∙ ap (λ (n : ℕ). m / 2 ^ l % 2 ^ n % 2) e ∙ mod-mod-pow (m / 2 ^ l) j 1

-- the last l bits are those of the last k, for l up to k
pub bits_mod : (l k m : ℕ) → l ≤ k → bits l (m % 2 ^ k) ≡ bits l m
unfolding bits
bits_mod zero k m h = refl
bits_mod (suc l) k m h =
    let e : k ≡ suc (k - suc l) + l = omega arith in
    let f : m % 2 ^ k / 2 ^ l % 2 ≡ m / 2 ^ l % 2 = ap (λ (n : ℕ). m % 2 ^ n / 2 ^ l % 2) e ∙ head_same (k - suc l) l m in
    rw (f, bits_mod l k m (omega arith))

bit_back : (b : Bool) → eqb (bit b % 2) 1 ≡ b
bit_back true = refl
bit_back false = refl

pub bits_number : (xs : List Bool) → bits (length xs) (number xs) ≡ xs
unfolding bits number
bits_number [] = refl
bits_number (b ∷ xs) =
    let h : number xs < 2 ^ length xs = number_lt xs in
    let t : bits (length xs) (bit b * 2 ^ length xs + number xs) ≡ xs =
    sym (bits_mod (length xs) (length xs) (bit b * 2 ^ length xs + number xs) (omega arith)) ∙ ap (bits (length xs)) (low (bit b) (length xs) h) ∙ bits_number xs in
    rw (high (bit b) (length xs) h, bit_back b, t)

-- ---- two lists in a row
pub number_append : (xs ys : List Bool) → number (xs ++ ys) ≡ number xs * 2 ^ length ys + number ys
unfolding number
number_append [] ys = rw (zero-mul (2 ^ length ys), zero-add (number ys))
number_append (x ∷ xs) ys =
    rw (number_append xs ys, length-append xs ys, pow-add 2 (length xs) (length ys), ← mul_assoc (bit x) (2 ^ length xs) (2 ^ length ys), add-mul (bit x * 2 ^ length xs) (number xs) (2 ^ length ys))
    (sym (add_assoc _ _ _))

-- the first l bits of l + k are those of the number without its last k
pub bits_append : (l k n : ℕ) → bits (l + k) n ≡ bits l (n / 2 ^ k) ++ bits k n
unfolding bits
bits_append zero k n = rw (zero-add k)
bits_append (suc l) k n = rw (suc-add l k, shr-shr n k l, add_comm k l, bits_append l k n)

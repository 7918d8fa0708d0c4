-- Laws of binaries as lists of bits, in the form that `search` takes: each premise is what a call promised or a test said.
use mathlib.Core.Path.{◌≡◌, refl, sym, ap, ◌∙◌}
use mathlib.Core.Bool.{Bool, true, false}
use mathlib.Core.List.{List, [], ◌∷◌, ◌++◌}
use Prim.Native.Nat.{ℕ, zero, suc, min, ◌+◌, ◌-◌, ◌*◌, ◌/◌, ◌%◌, ◌^◌, ◌≤◌, ◌<◌, compare, Ordering}
use native.Mathlib.Nat.{lt_of_lt_of_le, zero-add, suc-add, one-mul, mod-lt, mod-eq_of_lt, div-eq_of_lt}
use native.Mathlib.Omega.{arith}
use borrow.Author.Tests.{le-leb, lt-leb}
use lib.Arith.{digits_lt}
use lib.ListN.{length, take, drop, length-append}
use lib.Seq.{take_at, length-take-le}
use lib.Pow.{pow_pos, pow_mono, pow-lt, pow-add, high, low, shl_exact}
use mir.Syntax.{w64}
use mir.Val.{Fits}
use Rattle.relations.specs.Order.{then, compare_lists}
use Rattle.relations.proofs.Order.{by_lengths}
use Rattle.std.specs.Prelude.{Option, None, Some, SomeIff, Ok, Err}
use Rattle.std.specs.Option.{unwrap_or}
use Rattle.std.specs.Ordering.{nat_cmp, ordering_then}
use Rattle.express.specs.Semantics.Bits.{bit, number, bits, join, compare_bit, compare_bits}
use Rattle.express.proofs.Semantics.Bits.{length_bits, number_mod, number_lt, bits_mod, bits_append}
use Rattle.express.proofs.Semantics.Order.{compare_lt, compare_gt, compare_eq}
use Rattle.std.specs.declared.cmp.Ordering as order
use Rattle.values.specs.Meaning.{ordering_of}
use Rattle.values.specs.declared.End.TheVariants.{OutOfRange}
use Rattle.values.proofs.Orders.{number_order, then_order}
use Rattle.bits.specs.Meaning.{bits_of, Joins}
use Rattle.bits.specs.declared.Binary.{Binary}

-- ---- shifts of every width
under : (n k : ℕ) → Fits w64 n → 64 ≤ k → n < 2 ^ k
under n k f h = let g : n < 2 ^ 64 = f.fits in lt_of_lt_of_le g (pow_mono h)

module _ (n k : ℕ) (f : Fits w64 n) (h : 64 ≤ k) where
  pub none_high : 0 ≡ n / 2 ^ k
  none_high = sym (div-eq_of_lt (under n k f h))

  pub all_low : n ≡ n % 2 ^ k
  all_low = sym (mod-eq_of_lt (under n k f h))

-- what `checked_shr` gives, and 0 past the last bit
pub shifted_or : (n k : ℕ) (o : Option ℕ) {r : ℕ} → Fits w64 n → SomeIff o (k < 64) (n / 2 ^ k) → r ≡ unwrap_or o 0 → r ≡ n / 2 ^ k
shifted_or n k None f h e = e ∙ none_high n k f (omega (arith, h))
shifted_or n k (Some x) f h e = e ∙ h.1

module _ (k : ℕ) (h : k < 64) where
  one_shifted : 1 * 2 ^ k % 2 ^ 64 ≡ 2 ^ k
  one_shifted = rw (one-mul (2 ^ k)) (mod-eq_of_lt (pow-lt {i = k} {j = 64} (omega arith)))

  pub mask_some : 0 < 1 * 2 ^ k % 2 ^ 64
  mask_some = rw one_shifted (pow_pos k)

  pub mask_is : (n : ℕ) → n % (1 * 2 ^ k % 2 ^ 64) ≡ n % 2 ^ k
  mask_is n = rw one_shifted

-- ---- joining
length_both : (a b : Binary) → length (bits_of a ++ bits_of b) ≡ a.length + b.length
length_both a b =
    length-append (bits_of a) (bits_of b) ∙ rw (length_bits a.length a.number, length_bits b.length b.number)

pub too_long : (a b : Binary) → 63 < a.length + b.length → Joins (bits_of a) (bits_of b) (Err OutOfRange)
unfolding join
too_long a b h = record { is = rw (length_both a b, lt-leb (a.length + b.length) 63 h); canonical = tt }

module _ (a b : Binary) {m n : ℕ} (e : m ≡ a.number % 2 ^ a.length) (f : n ≡ b.number % 2 ^ b.length) (h : a.length + b.length ≤ 64) where
  m_lt : m < 2 ^ a.length
  m_lt = rw e (mod-lt a.number (pow_pos a.length))

  n_lt : n < 2 ^ b.length
  n_lt = rw f (mod-lt b.number (pow_pos b.length))

  shifted : m * 2 ^ b.length % 2 ^ 64 ≡ m * 2 ^ b.length
  shifted = shl_exact a.length b.length 64 m_lt (omega arith)

  sum_lt : m * 2 ^ b.length + n < 2 ^ (a.length + b.length)
  sum_lt = rw (pow-add 2 a.length b.length) (digits_lt m_lt n_lt)

  pub sum_fits : Fits w64 (m * 2 ^ b.length % 2 ^ 64 + n)
  sum_fits =
      let g : 2 ^ (a.length + b.length) ≤ 2 ^ 64 = pow_mono h in
      rw shifted (record { fits = omega (arith, sum_lt) })

  both : bits (a.length + b.length) (m * 2 ^ b.length + n) ≡ bits_of a ++ bits_of b
  both =
      let k = m * 2 ^ b.length + n in
      let x : bits a.length (k / 2 ^ b.length) ≡ bits_of a =
      ap (bits a.length) (high m b.length n_lt ∙ e) ∙ bits_mod a.length a.length a.number (omega arith) in
      let y : bits b.length k ≡ bits_of b =
      sym (bits_mod b.length b.length k (omega arith)) ∙ ap (bits b.length) (low m b.length n_lt ∙ f) ∙ bits_mod b.length b.length b.number (omega arith) in
      bits_append a.length b.length k ∙ rw (x, y)

  pub joined : a.length + b.length ≤ 63 → Joins (bits_of a) (bits_of b) (Ok (record { number = m * 2 ^ b.length % 2 ^ 64 + n; length = a.length + b.length }))
  unfolding join
  joined k = rw shifted (record { is = rw (length_both a b, le-leb (a.length + b.length) 63 k, both); canonical = (sum_lt, k) })

-- ---- the first bits
pub first_is : (a : Binary) (l : ℕ) → l ≤ a.length → a.number / 2 ^ (a.length - l) % 2 ^ l ≡ number (take l (bits_of a))
first_is a l h =
    let k = a.length - l in
    let e : l + (a.length - l) ≡ a.length = omega arith in
    let s : bits_of a ≡ bits l (a.number / 2 ^ (a.length - l)) ++ bits (a.length - l) a.number =
    ap (λ (j : ℕ). bits j a.number) (sym e) ∙ bits_append l (a.length - l) a.number in
    sym (ap (λ (xs : List Bool). number (take l xs)) s ∙ ap number (take_at _ _ l (length_bits l (a.number / 2 ^ (a.length - l)))) ∙ number_mod l (a.number / 2 ^ (a.length - l)))

pub first_number : (a : Binary) (l : ℕ) {x y : ℕ} → l ≤ a.length → y ≡ a.number / 2 ^ (a.length - l) → x ≡ y % 2 ^ l → x ≡ number (take l (bits_of a))
first_number a l h e f = f ∙ rw e (first_is a l h)

-- ---- comparing: by the numbers of the first l bits, and then by what follows them
compare_add : (k m n : ℕ) → compare (k + m) (k + n) ≡ compare m n
compare_add zero m n = rw (zero-add m, zero-add n)
compare_add (suc k) m n = rw (suc-add k m, suc-add k n) (Prim.Native.Nat.compare.suc-suc (k + m) (k + n) ∙ compare_add k m n)

first_lt : (l : ℕ) (xs : List Bool) → l ≤ length xs → number (take l xs) < 2 ^ l
first_lt l xs h = rw (length-take-le l xs h) at (number_lt (take l xs))

first_power : (l : ℕ) (xs : List Bool) → l ≤ length xs → 2 ^ length (take l xs) ≡ 2 ^ l
first_power l xs h = ap (λ (n : ℕ). 2 ^ n) (length-take-le l xs h)

same_head : (b : Bool) (l : ℕ) (xs ys : List Bool) → l ≤ length xs → l ≤ length ys → compare (number (b ∷ take l xs)) (number (b ∷ take l ys)) ≡ compare (number (take l xs)) (number (take l ys))
unfolding number
same_head b l xs ys g h = rw (first_power l xs g, first_power l ys h) (compare_add (bit b * 2 ^ l) _ _)

head_less : (l : ℕ) (xs ys : List Bool) → l ≤ length xs → l ≤ length ys → compare (number (false ∷ take l xs)) (number (true ∷ take l ys)) ≡ Ordering.lt
unfolding number
head_less l xs ys g h =
    let p = first_power l ys h in let q = first_lt l xs g in
    let r : 0 * 2 ^ length (take l xs) + number (take l xs) < 1 * 2 ^ length (take l ys) + number (take l ys) = omega arith in
    compare_lt _ _ r

head_more : (l : ℕ) (xs ys : List Bool) → l ≤ length xs → l ≤ length ys → compare (number (true ∷ take l xs)) (number (false ∷ take l ys)) ≡ Ordering.gt
unfolding number
head_more l xs ys g h =
    let p = first_power l xs g in let q = first_lt l ys h in
    let r : 0 * 2 ^ length (take l ys) + number (take l ys) < 1 * 2 ^ length (take l xs) + number (take l xs) = omega arith in
    compare_gt _ _ r

compare_first : (l : ℕ) (xs ys : List Bool) → l ≤ length xs → l ≤ length ys → compare_bits xs ys ≡ then (compare (number (take l xs)) (number (take l ys))) (compare_bits (drop l xs) (drop l ys))
unfolding compare_lists
compare_first zero xs ys g h = rw (compare_eq (number []) (number []) refl)
compare_first (suc l) [] ys g h = absurd (omega arith)
compare_first (suc l) (x ∷ xs) [] g h = absurd (omega arith)
compare_first (suc l) (false ∷ xs) (true ∷ ys) g h = rw (head_less l xs ys (omega arith) (omega arith))
compare_first (suc l) (true ∷ xs) (false ∷ ys) g h = rw (head_more l xs ys (omega arith) (omega arith))
compare_first (suc l) (false ∷ xs) (false ∷ ys) g h = rw (same_head false l xs ys (omega arith) (omega arith)) (compare_first l xs ys (omega arith) (omega arith))
compare_first (suc l) (true ∷ xs) (true ∷ ys) g h = rw (same_head true l xs ys (omega arith) (omega arith)) (compare_first l xs ys (omega arith) (omega arith))

module _ (a b : Binary) {l m n : ℕ} (S : l ≡ min a.length b.length) (e : m ≡ number (take l (bits_of a))) (f : n ≡ number (take l (bits_of b))) where
  by_numbers : {o : Ordering} → compare m n ≡ o → compare_bits (bits_of a) (bits_of b) ≡ then o (compare_bits (drop l (bits_of a)) (drop l (bits_of b)))
  by_numbers {o} h =
      let k : compare (number (take l (bits_of a))) (number (take l (bits_of b))) ≡ o = rw (← e, ← f) h in
      compare_first l (bits_of a) (bits_of b) (rw (length_bits a.length a.number) (omega arith)) (rw (length_bits b.length b.number) (omega arith))
      ∙ ap (λ (o : Ordering). then o (compare_bits (drop l (bits_of a)) (drop l (bits_of b)))) k

  pub compared :
      {o p q : order.Ordering} → p ≡ nat_cmp m n → q ≡ nat_cmp a.length b.length → o ≡ ordering_then p q → ordering_of o ≡ compare_bits (bits_of a) (bits_of b)
  compared g h k =
      let r : compare_bits (drop l (bits_of a)) (drop l (bits_of b)) ≡ compare a.length b.length =
      by_lengths compare_bit l (bits_of a) (bits_of b) (rw (length_bits a.length a.number, length_bits b.length b.number) S)
      ∙ rw (length_bits a.length a.number, length_bits b.length b.number) in
      rw (k, g, h) (then_order (nat_cmp m n) (nat_cmp a.length b.length)
      ∙ rw (number_order m n, number_order a.length b.length) (sym (by_numbers {o = compare m n} refl ∙ ap (then (compare m n)) r)))

-- Arithmetic on integers (K17 to K20): exact results over ℤ, and the end of what 64 signed bits do not hold.
use Rattle.std.specs.Prelude.{◌≡◌, Bool, true, false, cond, ◌⊎◌, eqb, ltb, ℤ, pos, negsuc, neg_ℤ, nat_abs, ◌+ℤ◌, ◌-ℤ◌, ◌*ℤ◌}
use Prim.Native.Nat.{ℕ, suc, ◌-◌, ◌%◌, ◌^◌, ◌<◌, compare, Ordering}
use Rattle.std.proofs.Math.IntN.{pow}
use Rattle.std.specs.Int.Signed.{mag, shr_z}
use Rattle.express.specs.Semantics.Answer.{Answer, integer, end, outside, zero_divisor, negative_power}

-- K17: what 64 signed bits do not hold is an end. `mag` is n both of n and of -(n + 1): it is below 2 ^ 63 from -(2 ^ 63) to 2 ^ 63 - 1.
unfoldable pub exact : ℤ → Answer
exact z = cond (ltb (mag z) (2 ^ 63)) (integer z) (end outside)

-- the operations, over all integers
abbrev pub sum : ℤ → ℤ → Answer
sum a b = exact (a +ℤ b)

abbrev pub difference : ℤ → ℤ → Answer
difference a b = exact (a -ℤ b)

abbrev pub product : ℤ → ℤ → Answer
product a b = exact (a *ℤ b)

abbrev pub negation : ℤ → Answer
negation a = exact (neg_ℤ a)

-- ---- DIV and MOD (K18)
abbrev pub negative : ℤ → Bool
negative (pos n) = false
negative (negsuc n) = true

-- the opposite of z where the test holds, else z
abbrev pub signed : Bool → ℤ → ℤ
signed false z = z
signed true z = neg_ℤ z

-- K18: what is left of a, when d is taken away or added until it lies from 0 to d - 1
abbrev pub rest : ℤ → ℕ → ℕ
rest (pos a) d = a % d
rest (negsuc a) d = d - suc (a % d)

-- K18: `shr_z a d` is a / d rounded down. For a negative divisor a DIV b is -(a DIV -b), and a MOD b is -(a MOD -b).
unfoldable pub quotient : ℤ → ℤ → ℤ
quotient a b = signed (negative b) (shr_z a (nat_abs b))

unfoldable pub remainder : ℤ → ℤ → ℤ
remainder a b = signed (negative b) (pos (rest a (nat_abs b)))

-- K18
unfoldable pub DIV : ℤ → ℤ → Answer
DIV a b = cond (eqb (nat_abs b) 0) (end zero_divisor) (exact (quotient a b))

unfoldable pub MOD : ℤ → ℤ → Answer
MOD a b = cond (eqb (nat_abs b) 0) (end zero_divisor) (exact (remainder a b))

-- K19: q and r divide a by b. For a divisor other than 0 `quotient` and `remainder` do, and nothing else does (proofs/theorems/Divide).
pub record Divided (a b q r : ℤ) : Type 0 where
  pub sign : (r ≡ pos 0) ⊎ (negative r ≡ negative b)
  pub less : nat_abs r < nat_abs b
  pub whole : q *ℤ b +ℤ signed (negative b) r ≡ a

-- ---- the power (K20). `pow a 0` is 1, of 0 too, and `pow a (suc n)` is `pow a n *ℤ a`.
unfoldable pub power : ℤ → ℤ → Answer
power a (pos n) = exact (pow a n)
power a (negsuc n) = end negative_power

-- ---- the order of two integers (K22)
abbrev pub compareℤ : ℤ → ℤ → Ordering
compareℤ (pos m) (pos n) = compare m n
compareℤ (pos m) (negsuc n) = Ordering.gt
compareℤ (negsuc m) (pos n) = Ordering.lt
compareℤ (negsuc m) (negsuc n) = compare n m

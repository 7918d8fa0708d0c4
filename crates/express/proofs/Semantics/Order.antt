-- The orders of integers, logicals, lists of bits and of bytes: what the machine's test tells of two integers; and the others are total.
use mathlib.Core.Path.{◌≡◌, refl}
use mathlib.Core.Bool.{Bool, true, false}
use Prim.Native.Nat.{Ordering}
use Prim.Native.Nat.{ℕ, compare}
use native.Mathlib.Omega.{arith}
use borrow.Author.Tests.{ltb-true, ltb-false}
use lib.IntN.{ℤ, pos, negsuc}
use lib.Signed.{lt_z}
use Rattle.relations.specs.Order.{Total}
pub use Rattle.relations.proofs.Order.{compare_lt, compare_gt, compare_eq}
use Rattle.relations.proofs.Order.{total_by, total_numbers, total_lists}
use Rattle.express.specs.Semantics.Answer.{Logical, FALSE, UNKNOWN, TRUE}
use Rattle.express.specs.Semantics.Integer.{compareℤ}
use Rattle.express.specs.Semantics.Logic.{rank, compare_logical}
use Rattle.express.specs.Semantics.Bits.{bit, compare_bit, compare_bits}
use Rattle.express.specs.Semantics.Strings.{compare_bytes}

-- ---- integers: `lt_z` is the test that the machine makes
pub less_integer : (a b : ℤ) → lt_z a b ≡ true → compareℤ a b ≡ Ordering.lt
less_integer (pos m) (pos n) e = compare_lt m n (ltb-true m n e)
less_integer (pos m) (negsuc n) e = let z : ◌≡◌ {A = ℕ} 0 1 = cc in absurd (omega arith)
less_integer (negsuc m) (pos n) e = refl
less_integer (negsuc m) (negsuc n) e = compare_lt n m (ltb-true n m e)

pub more_integer : (a b : ℤ) → lt_z b a ≡ true → compareℤ a b ≡ Ordering.gt
more_integer (pos m) (pos n) e = compare_gt m n (ltb-true n m e)
more_integer (pos m) (negsuc n) e = refl
more_integer (negsuc m) (pos n) e = let z : ◌≡◌ {A = ℕ} 0 1 = cc in absurd (omega arith)
more_integer (negsuc m) (negsuc n) e = compare_gt n m (ltb-true m n e)

pub same_integer : (a b : ℤ) → lt_z a b ≡ false → lt_z b a ≡ false → compareℤ a b ≡ Ordering.eq
same_integer (pos m) (pos n) e f = let p = ltb-false m n e in let q = ltb-false n m f in compare_eq m n (omega arith)
same_integer (pos m) (negsuc n) e f = let z : ◌≡◌ {A = ℕ} 0 1 = cc in absurd (omega arith)
same_integer (negsuc m) (pos n) e f = let z : ◌≡◌ {A = ℕ} 0 1 = cc in absurd (omega arith)
same_integer (negsuc m) (negsuc n) e f = let p = ltb-false n m e in let q = ltb-false m n f in compare_eq n m (omega arith)

-- ---- logicals and lists of bits
one_rank : (l m : Logical) → rank l ≡ rank m → l ≡ m
one_rank FALSE FALSE e = refl
one_rank FALSE UNKNOWN e = absurd (omega arith)
one_rank FALSE TRUE e = absurd (omega arith)
one_rank UNKNOWN FALSE e = absurd (omega arith)
one_rank UNKNOWN UNKNOWN e = refl
one_rank UNKNOWN TRUE e = absurd (omega arith)
one_rank TRUE FALSE e = absurd (omega arith)
one_rank TRUE UNKNOWN e = absurd (omega arith)
one_rank TRUE TRUE e = refl

pub total_logicals : Total compare_logical
total_logicals = total_by rank one_rank

one_bit : (x y : Bool) → bit x ≡ bit y → x ≡ y
one_bit true true e = refl
one_bit true false e = absurd (omega arith)
one_bit false true e = absurd (omega arith)
one_bit false false e = refl

pub total_bytes : Total compare_bytes
total_bytes = total_lists compare total_numbers

pub total_bits : Total compare_bits
total_bits = total_lists compare_bit (total_by bit one_bit)

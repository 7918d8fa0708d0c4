-- The bucket of a number of 32 bits: so large a part of the buckets as it is of all such numbers. The bucket of a key: its own, or that
-- of the number of 32 bits that it is mixed to.
use mathlib.Core.Path.{◌≡◌, ap, ◌∙◌}
use mathlib.Core.Bool.{false}
use Prim.Native.Nat.{ℕ, ◌*◌, ◌/◌, ◌≤◌, ◌<◌, min}
use native.Mathlib.Omega.{arith}
use native.Mathlib.Nat.{mul-le-mul_left, mul-lt-mul_of_pos_right, mod-lt}
use borrow.Author.Tests.{lt-ltb, le-ltb}
use lib.Dec.{ltb}
use Rattle.index.specs.Bucket.{mixed, range_of, bucket_of, InRange, InBucket}

module _ {h m : ℕ} (buckets : ℕ) (small : h < 4294967296) (e : m ≡ min buckets 4294967296) where
  pub range_fits : h * m < 18446744073709551616
  range_fits = let low : m ≤ 4294967296 = omega arith in let le = mul-le-mul_left h low in omega arith

  pub in_range : 0 < buckets → InRange buckets h (h * m / 4294967296)
  unfolding range_of
  in_range some =
      let pos : 0 < m = omega arith in
      let lt : h * m < 4294967296 * m = mul-lt-mul_of_pos_right small pos in
      record { is = ap (λ (x : ℕ). h * x / 4294967296) e; small = omega arith }

mixed_small : (x : ℕ) → mixed x < 4294967296
unfolding mixed
mixed_small x = mod-lt _ (omega arith)

pub key_fits : (buckets x : ℕ) {h m : ℕ} → h ≡ mixed x → m ≡ min buckets 4294967296 → h * m < 18446744073709551616
key_fits buckets x {h} q e = let l : h < 4294967296 = rw q (mixed_small x) in range_fits buckets l e

pub own_bucket : (buckets x : ℕ) → x < buckets → InBucket buckets x x
unfolding bucket_of
own_bucket buckets x l = record { is = rw (lt-ltb x buckets l); small = l }

pub mixed_bucket : (buckets x : ℕ) {h m : ℕ} → buckets ≤ x → h ≡ mixed x → m ≡ min buckets 4294967296 → 0 < buckets → InBucket buckets x (h * m / 4294967296)
unfolding bucket_of
mixed_bucket buckets x {h} n q e some =
    let l : h < 4294967296 = rw q (mixed_small x) in
    let r = in_range buckets l e some in
    let t : ltb x buckets ≡ false = le-ltb x buckets n in
    record { is = r.is ∙ ap (range_of buckets) q ∙ rw t; small = r.small }

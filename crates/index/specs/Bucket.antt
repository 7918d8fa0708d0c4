-- Buckets: where a number's chain begins. Which function it is decides the time and no answer; so that keys that differ in a few
-- bits, wherever these stand, fall far apart, their halves are added and multiplied by a large odd number, 2 ^ 32 over the golden ratio,
-- and the high bits of that are taken.
use Rattle.std.specs.Prelude.{◌≡◌, cond, ℕ, ◌+◌, ◌*◌, ◌/◌, ◌%◌, ◌<◌, min, ltb}

abbrev pub word : ℕ
word = 4294967296

abbrev pub factor : ℕ
factor = 2654435761

abbrev pub spread : ℕ → ℕ
spread x = x % word * factor % word

unfoldable pub mixed : ℕ → ℕ
mixed x = spread (x % word + x / word)

-- the bucket of a number of 32 bits, by its high bits
unfoldable pub range_of : ℕ → ℕ → ℕ
range_of buckets h = h * min buckets word / word

-- the bucket of a key: its own, where there are so many
unfoldable pub bucket_of : ℕ → ℕ → ℕ
bucket_of buckets x = cond (ltb x buckets) x (range_of buckets (mixed x))

-- what an inner function gives
pub record InBucket (buckets x r : ℕ) : Type 0 where
  pub is : r ≡ bucket_of buckets x
  pub small : r < buckets

pub record InRange (buckets h r : ℕ) : Type 0 where
  pub is : r ≡ range_of buckets h
  pub small : r < buckets

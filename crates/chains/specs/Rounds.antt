-- Rounds: the buckets that a spelling may go into, one after the other. It goes into the first whose chain is not full, and into the last
-- whatever its chain holds: so a chain that somebody fills takes little time of those who pass it. They decide the time and no answer.
use Rattle.std.specs.Prelude.{cond, List, ℕ, zero, suc, ◌%◌, ltb}
use Rattle.index.specs.Bucket.{word, range_of}
use Rattle.spellings.specs.Hash.{hash_of, stirred, long_hash_of}

-- a chain with so many entries is full
abbrev pub full : ℕ
full = 8

-- so many of the later rounds come before the last
abbrev pub later : ℕ
later = 6

-- the bucket of a spelling in the first round
abbrev pub first_bucket : ℕ → List ℕ → ℕ
first_bucket buckets xs = range_of buckets (hash_of xs)

-- in a later round: by the low half of a number of 64 bits, which is stirred from round to round
abbrev pub low_half : ℕ → ℕ
low_half h = h % word

abbrev pub later_bucket : ℕ → ℕ → ℕ
later_bucket buckets h = range_of buckets (low_half h)

-- where chains have so many entries: of the later buckets, from a number on, the first whose chain has room, or the last of so many more
unfoldable pub later_home : (ℕ → ℕ) → ℕ → ℕ → ℕ → ℕ
later_home entries buckets h zero = later_bucket buckets h
later_home entries buckets h (suc left) = let b = later_bucket buckets h in cond (ltb (entries b) full) b (later_home entries buckets (stirred h 0) left)

-- the bucket that a spelling goes into
unfoldable pub home : (ℕ → ℕ) → ℕ → List ℕ → ℕ
home entries buckets xs = let b = first_bucket buckets xs in cond (ltb (entries b) full) b (later_home entries buckets (long_hash_of xs) later)

-- The hash of a spelling, a number of 32 bits by which it falls into a bucket; and a longer one, of 64, for spellings whose hashes are alike.
use Rattle.std.specs.Prelude.{◌≡◌, List, [], ◌∷◌, map, ℕ, zero, suc, ◌+◌, ◌-◌, ◌*◌, ◌/◌, ◌%◌, ◌<◌, length, get_or}
use Rattle.express.specs.Tokens.Bytes.{lower}
use Rattle.index.specs.Bucket.{word, factor, spread}

-- four bytes of a word from a place on, as one number; of each byte the low five bits, which the two cases of a letter share
abbrev pub block : List ℕ → ℕ → ℕ
block xs k = get_or xs k 0 % 32 + get_or xs (k + 1) 0 % 32 * 256 + get_or xs (k + 2) 0 % 32 * 65536 + get_or xs (k + 3) 0 % 32 * 16777216

-- a number in which another one has its say
abbrev pub joined : ℕ → ℕ → ℕ
joined h x = spread (h + x)

-- so many blocks from a place on, one after the other
unfoldable pub hash_blocks : ℕ → ℕ → ℕ → List ℕ → ℕ
hash_blocks zero h k xs = h
hash_blocks (suc n) h k xs = hash_blocks n (joined h (block xs k)) (k + 4) xs

-- a number of 32 bits for a word: all its blocks, and two of them at least
unfoldable pub hash_of : List ℕ → ℕ
hash_of xs = hash_blocks (suc (suc ((length xs - 5) / 4))) 0 0 xs

-- a number of 64 bits in which a byte has its say: a step of multiply with carry
unfoldable pub stirred : ℕ → ℕ → ℕ
stirred h b = (h % word + b) * factor + h / word

unfoldable pub stirred_all : ℕ → List ℕ → ℕ
stirred_all h [] = h
stirred_all h (b ∷ xs) = stirred_all (stirred h b) xs

-- a number of 64 bits for a word: all bits of all its bytes; two steps more spread the last ones
unfoldable pub long_hash_of : List ℕ → ℕ
long_hash_of xs = stirred (stirred (stirred_all 0 xs) 0) 0

-- ---- what inner functions give

-- of two numbers taken up into one
pub record Joins (h x r : ℕ) : Type 0 where
  pub is : r ≡ joined h x
  pub small : r < word

-- four bytes as they stand, and the block that they make without case
pub record Four (xs : List ℕ) (k r : ℕ) : Type 0 where
  pub is : r ≡ get_or xs k 0 + get_or xs (k + 1) 0 * 256 + get_or xs (k + 2) 0 * 65536 + get_or xs (k + 3) 0 * 16777216
  pub small : r < word

pub record IsBlock (xs : List ℕ) (k r : ℕ) : Type 0 where
  pub is : r ≡ block (map lower xs) k
  pub small : r < word

pub record Hashes (xs : List ℕ) (r : ℕ) : Type 0 where
  pub is : r ≡ hash_of (map lower xs)
  pub small : r < word

-- A dictionary over keys: the least entry with a key, from an index on.
use Rattle.std.specs.Prelude.{◌≡◌, Bool, true, cond, ◌&&◌, not, List, ℕ, ◌+◌, ◌-◌, ◌≤◌, ◌<◌, eqb, ltb, length, get_or, Option, Some, None, Result}
use Rattle.relations.specs.Select.{first_from}
use Rattle.index.specs.Bucket.{bucket_of}
use Rattle.index.specs.Room.{done, fits}
use Rattle.index.specs.declared.Short.{Short}

-- entry i has the key: 0 is none
abbrev pub has : List ℕ → ℕ → ℕ → Bool
has keys key i = not (eqb key 0) && eqb (get_or keys i 0) key

-- an index among n entries; past them there is nothing
abbrev pub among : ℕ → ℕ → Option ℕ
among n i = cond (ltb i n) (Some i) None

-- the least entry, from an index on, that has the key
unfoldable pub first_with : List ℕ → ℕ → ℕ → Option ℕ
first_with keys key from = among (length keys) (first_from (has keys key) from (length keys - from))

-- ---- what `build` leaves

-- entry i has a key that falls into bucket b
abbrev pub falls : List ℕ → ℕ → ℕ → ℕ → Bool
falls keys buckets b i = not (eqb (get_or keys i 0) 0) && eqb (bucket_of buckets (get_or keys i 0)) b

-- a link to an index among n entries: one more, or 0 past them
abbrev pub link_to : ℕ → ℕ → ℕ
link_to n i = cond (ltb i n) (i + 1) 0

-- the link to the first entry of a bucket, from an index on
unfoldable pub link : List ℕ → ℕ → ℕ → ℕ → ℕ
link keys buckets b from = link_to (length keys) (first_from (falls keys buckets b) from (length keys - from))

-- heads and next hold the chains of these keys: a bucket's head is its first entry, and after an entry comes the next of its bucket
pub record Indexed (keys heads next : List ℕ) : Type 0 where
  pub some : 0 < length heads
  pub room : length keys ≤ length next
  pub head : (b : ℕ) → b < length heads → get_or heads b 0 ≡ link keys (length heads) b 0
  pub goes : (i : ℕ) → i < length keys → 0 < get_or keys i 0 → get_or next i 0 ≡ link keys (length heads) (bucket_of (length heads) (get_or keys i 0)) (i + 1)

-- ---- contracts

-- done exactly where there is room: then heads and next hold the chains, and an entry that has no key, as what is behind the keys, has the
-- link that it had; else nothing changes
pub record Builds (keys heads next : List ℕ) (r : Result (Unit {0}) Short) (heads' next' : List ℕ) : Type 0 where
  pub answer : done r ≡ fits (length keys) (length heads) (length next)
  pub indexed : done r ≡ true → Indexed keys heads' next'
  pub rest : done r ≡ true → (i : ℕ) → get_or keys i 0 ≡ 0 → get_or next' i 0 ≡ get_or next i 0
  pub kept : not (done r) ≡ true → (heads' ≡ heads) × (next' ≡ next)

-- an entry that is given lies in the keys, from an index on, and has the key
abbrev pub Holds : List ℕ → ℕ → ℕ → Option ℕ → Type 0
Holds keys key from (Some i) = (from ≤ i) × (i < length keys) × (get_or keys i 0 ≡ key)
Holds keys key from None = Unit {0}

-- the least entry with the key, where heads and next are as `build` leaves them; whatever they hold, the call ends, and an entry that
-- it gives has the key
pub record Finds (keys heads next : List ℕ) (key : ℕ) (r : Option ℕ) : Type 0 where
  pub holds : Holds keys key 0 r
  pub is : Indexed keys heads next → r ≡ first_with keys key 0

-- the next entry with the same key, likewise
pub record Continues (keys next : List ℕ) (entry : ℕ) (r : Option ℕ) : Type 0 where
  pub holds : Holds keys (get_or keys entry 0) (entry + 1) r
  pub is : (heads : List ℕ) → Indexed keys heads next → r ≡ first_with keys (get_or keys entry 0) (entry + 1)

-- the first entry with the key on a chain, from its first link on
pub record Walks (keys next : List ℕ) (key from first : ℕ) (r : Option ℕ) : Type 0 where
  pub holds : Holds keys key from r
  pub is : (heads : List ℕ) → Indexed keys heads next → 0 < key → first ≡ link keys (length heads) (bucket_of (length heads) key) from → r ≡ first_with keys key from

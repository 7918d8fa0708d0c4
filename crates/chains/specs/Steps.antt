-- What is asked of chains: a walk along one, the rounds of a spelling, and where a token or a word is.
use Rattle.std.specs.Prelude.{◌≡◌, Bool, true, cond, ◌&&◌, List, map, ℕ, zero, suc, ◌+◌, ◌-◌, ◌≤◌, ◌<◌, min, ltb, length}
use Rattle.express.specs.Tokens.Bytes.{lower, same}
use Rattle.express.specs.Tokens.Spelling.{spelling}
use Rattle.index.specs.Link.{last_index_below}
use Rattle.spellings.specs.Hash.{long_hash_of}
use Rattle.chains.specs.Rounds.{full, later, later_home, home}
use Rattle.chains.specs.Chains.{is_first, entries, chained, Links, ChainedBelow}
use Rattle.chains.specs.declared.Met.{Met}
use Rattle.chains.specs.declared.Met.TheVariants.{At, Full, Room}
use Rattle.chains.specs.declared.Place.{Place}
use Rattle.chains.specs.declared.Place.TheVariants.{Known, Free}

-- what a walk met, by the link to a token and the entries of the chain
abbrev pub met_by : ℕ → ℕ → Met
met_by zero n = cond (ltb n full) Room Full
met_by (suc k) n = At k

-- where a word is, by what was met and its bucket; and by the link to the token that is spelled so
abbrev pub place_by : Met → ℕ → Place
place_by (At k) b = Known k
place_by Full b = Free b
place_by Room b = Free b

abbrev pub place_at : ℕ → ℕ → Place
place_at zero b = Free b
place_at (suc k) b = Known k

-- token i has its start, its length and its link, and there is a bucket
abbrev pub lined_with : ℕ → ℕ → ℕ → ℕ → ℕ → Bool
lined_with starts lengths heads next i = ltb i (min starts (min lengths next)) && ltb 0 heads

module _ (bytes starts lengths : List ℕ) where
  -- token j has a spelling
  abbrev pub has : List ℕ → ℕ → Bool
  has xs j = same (spelling bytes starts lengths j) xs

  -- a token that was met lies below the limit, and has the spelling; a place is such a token, or a bucket
  abbrev pub MetAlike : List ℕ → ℕ → Met → Type 0
  MetAlike xs limit (At k) = (k < limit) × (has xs k ≡ true)
  MetAlike xs limit Full = Unit {0}
  MetAlike xs limit Room = Unit {0}

  abbrev pub PlacedAlike : List ℕ → ℕ → ℕ → Place → Type 0
  PlacedAlike xs limit buckets (Known k) = (k < limit) × (has xs k ≡ true)
  PlacedAlike xs limit buckets (Free b) = b < buckets

  -- so many tokens have their starts, lengths and links
  pub record Lined (next : List ℕ) (limit : ℕ) : Type 0 where
    pub started : limit ≤ length starts
    pub sized : limit ≤ length lengths
    pub linked : limit ≤ length next

  -- a link leads to a token below the limit that has the spelling
  pub record Leads (xs : List ℕ) (limit first : ℕ) : Type 0 where
    pub some : 0 < first
    pub low : first - 1 < limit
    pub alike : has xs (first - 1) ≡ true

  module _ (terminals : List ℕ) where
    -- token j is on the chain of bucket b, and has the spelling; is the first that has it
    abbrev pub wanted : ℕ → ℕ → List ℕ → ℕ → Bool
    wanted buckets b xs j = chained bytes starts lengths terminals buckets b j && has xs j

    abbrev pub first_spelled : List ℕ → ℕ → Bool
    first_spelled xs j = is_first bytes starts lengths terminals j && has xs j

    -- where a spelling is, by the chains of the tokens below a limit
    unfoldable pub place_of : ℕ → List ℕ → ℕ → Place
    place_of buckets xs limit = place_at (last_index_below (first_spelled xs) limit) (home (entries bytes starts lengths terminals buckets limit) buckets xs)

    -- whoever has the spelling found the chains full before a later round, which goes by a number, with so many behind it; so does who comes next
    pub record Passed (buckets : ℕ) (xs : List ℕ) (limit h left : ℕ) : Type 0 where
      pub before :
          (j : ℕ) → j < limit → first_spelled xs j ≡ true →
          home (entries bytes starts lengths terminals buckets j) buckets xs ≡ later_home (entries bytes starts lengths terminals buckets j) buckets h left
      pub now :
          home (entries bytes starts lengths terminals buckets limit) buckets xs ≡ later_home (entries bytes starts lengths terminals buckets limit) buckets h left

  -- what is met on a chain, whose first link is given
  pub record Along (next xs : List ℕ) (limit first : ℕ) (r : Met) : Type 0 where
    pub holds : MetAlike xs limit r
    pub is :
        (terminals : List ℕ) (buckets b : ℕ) → Links bytes starts lengths terminals buckets next limit
        → first ≡ last_index_below (chained bytes starts lengths terminals buckets b) limit
        → r ≡ met_by (last_index_below (wanted terminals buckets b xs) limit) (entries bytes starts lengths terminals buckets limit b)

  -- where a spelling is, by all its rounds; and by the later ones
  pub record Places (heads next xs : List ℕ) (limit : ℕ) (r : Place) : Type 0 where
    pub holds : PlacedAlike xs limit (length heads) r
    pub is : (terminals : List ℕ) → ChainedBelow bytes starts lengths terminals heads next limit → r ≡ place_of terminals (length heads) xs limit

  pub record PlacesLater (heads next xs : List ℕ) (limit : ℕ) (r : Place) : Type 0 where
    pub holds : PlacedAlike xs limit (length heads) r
    pub is :
        (terminals : List ℕ) → ChainedBelow bytes starts lengths terminals heads next limit → Passed terminals (length heads) xs limit (long_hash_of xs) later
        → r ≡ place_of terminals (length heads) xs limit

  -- where token i is by the chains of those before it, if it has its start, its length and its link, and there is a bucket; and where a word is by
  -- those of all tokens that have theirs
  pub record PlacesToken (heads next : List ℕ) (i : ℕ) (r : Place) : Type 0 where
    pub is : Lined next (i + 1) → 0 < length heads → Places heads next (spelling bytes starts lengths i) i r

  pub record PlacesWord (heads next word : List ℕ) (r : Place) : Type 0 where
    pub is : 0 < length heads → Places heads next (map lower word) (min (length starts) (min (length lengths) (length next))) r

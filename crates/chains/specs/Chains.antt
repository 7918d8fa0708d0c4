-- Chains: the first identifier of each spelling stands on that of its bucket, each linked to the one before it.
use Rattle.std.specs.Prelude.{◌≡◌, Bool, true, cond, ◌&&◌, List, ℕ, zero, suc, ◌<◌, eqb, length, get_or}
use Rattle.express.specs.Tokens.Spelling.{spelling, is_identifier, symbol_of}
use Rattle.index.specs.Link.{last_index_below}
use Rattle.chains.specs.Rounds.{home}

module _ (bytes starts lengths terminals : List ℕ) where
  -- token j is the first identifier of its spelling: these stand on chains
  unfoldable pub is_first : ℕ → Bool
  is_first j = is_identifier terminals j && eqb (symbol_of bytes starts lengths terminals j) j

  -- the entries of a bucket's chain, of the first n tokens
  unfoldable pub entries : ℕ → ℕ → ℕ → ℕ
  entries buckets zero b = 0
  entries buckets (suc n) b =
      let before = entries buckets n in
      cond (is_first n && eqb (home before buckets (spelling bytes starts lengths n)) b) (suc (before b)) (before b)

  -- the bucket of the first of a spelling, by what the chains hold before it
  abbrev pub home_at : ℕ → ℕ → ℕ
  home_at buckets j = home (entries buckets j) buckets (spelling bytes starts lengths j)

  -- token j is on the chain of bucket b
  unfoldable pub chained : ℕ → ℕ → ℕ → Bool
  chained buckets b j = is_first j && eqb (home_at buckets j) b

  -- the links among the first n tokens: from each on a chain to the one before it
  abbrev pub Links : ℕ → List ℕ → ℕ → Type 0
  Links buckets next n = (k : ℕ) → k < n → is_first k ≡ true → get_or next k 0 ≡ last_index_below (chained buckets (home_at buckets k)) k

  -- heads and next hold the chains of the first n tokens: a bucket's head is the last of its chain
  pub record ChainedBelow (heads next : List ℕ) (n : ℕ) : Type 0 where
    pub head : (b : ℕ) → b < length heads → get_or heads b 0 ≡ last_index_below (chained (length heads) b) n
    pub links : Links (length heads) next n

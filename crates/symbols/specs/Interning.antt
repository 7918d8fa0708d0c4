-- Interning: an interned spelling is called a symbol here; its number is the least identifier that is spelled so (`symbol_of` of express).
-- (Elsewhere a symbol is a token of punctuation.)
use Rattle.std.specs.Prelude.{◌≡◌, Bool, true, false, cond, ◌&&◌, not, List, map, ℕ, ◌≤◌, ◌<◌, length, get_or, Option, Some, None, Result}
use Rattle.std.proofs.lemmas.List.Edits.{sets}
use Rattle.relations.specs.Select.{first_from}
use Rattle.express.specs.Tokens.Bytes.{lower, same}
use Rattle.express.specs.Tokens.Spelling.{spelling, is_identifier, symbols_of}
use Rattle.index.specs.Room.{done, enough}
use Rattle.index.specs.Dictionary.{among}
use Rattle.index.specs.declared.Short.{Short}
use Rattle.chains.specs.Chains.{is_first, ChainedBelow}

module _ (bytes starts lengths : List ℕ) where
  -- token j is spelled like a word, which may stand in other bytes
  abbrev pub spells : List ℕ → ℕ → Bool
  spells word j = same (spelling bytes starts lengths j) (map lower word)

  -- a token below a limit, spelled like the word
  abbrev pub SpelledLike : List ℕ → ℕ → Option ℕ → Type 0
  SpelledLike word limit (Some i) = (i < limit) × (spells word i ≡ true)
  SpelledLike word limit None = Unit {0}

  module _ (terminals : List ℕ) where
    -- heads and next hold the chains of all identifiers
    pub record Chained (heads next : List ℕ) : Type 0 where
      pub some : 0 < length heads
      pub sized : length starts ≤ length lengths
      pub room : length starts ≤ length next
      pub chains : ChainedBelow bytes starts lengths terminals heads next (length starts)

    -- the symbol of a word: the least identifier that is spelled like it, if there is one
    unfoldable pub symbol_of_word : List ℕ → Option ℕ
    symbol_of_word word = among (length starts) (first_from (λ j. is_identifier terminals j && spells word j) 0 (length starts))

    -- ---- contracts

    -- done exactly where there is room: each token's symbol then stands in the column, heads and next hold the chains, and what `next` had
    -- behind the tokens, and at those that are on no chain, stays; else all stays as it was. A token that lies outside the bytes, or reaches
    -- past them, is spelled by those of its bytes that are there; one past the end of the column of terminals is no identifier.
    pub record Interns (symbols heads next : List ℕ) (r : Result (Unit {0}) Short) (symbols' heads' next' : List ℕ) : Type 0 where
      pub answer : done r ≡ enough (length starts) (length lengths) (length symbols) (length heads) (length next)
      pub stored : symbols' ≡ cond (done r) (sets symbols 0 (symbols_of bytes starts lengths terminals)) symbols
      pub chains : done r ≡ true → Chained heads' next'
      pub rest : done r ≡ true → (k : ℕ) → length starts ≤ k → get_or next' k 0 ≡ get_or next k 0
      pub others : done r ≡ true → (k : ℕ) → is_first bytes starts lengths terminals k ≡ false → get_or next' k 0 ≡ get_or next k 0
      pub kept : not (done r) ≡ true → (heads' ≡ heads) × (next' ≡ next)

  -- the symbol of the word, where heads and next are as `intern` leaves them for some terminals; whatever they hold, the call ends, and a token
  -- that it gives is spelled like the word
  pub record FindsSymbol (heads next word : List ℕ) (r : Option ℕ) : Type 0 where
    pub holds : SpelledLike word (length starts) r
    pub is : (terminals : List ℕ) → Chained terminals heads next → r ≡ symbol_of_word terminals word

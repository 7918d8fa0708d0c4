-- How a word or a symbol is looked up (T9, T15, T20): by a perfect hash of its bytes, and one comparison.
use Rattle.std.specs.Prelude.{Bool, true, false, ◌≡◌, List, [], ◌++◌, map, ℕ, ◌+◌, ◌-◌, ◌<◌, length, get_or}
use Rattle.express.specs.Tokens.Bytes.{upper, same}
use Rattle.express.specs.Tokens.Terminal.{symbols, reserved}
use Rattle.terminals.specs.Spellings.{spelling_count, first_code, mixed}

-- the terminals that have one spelling, in the order of their codes
abbrev pub spellings : List (List ℕ)
spellings = map (λ f. f.spelling) (symbols ++ reserved)

abbrev pub spelling : ℕ → List ℕ
spelling k = get_or spellings k []

-- T3: a word without its case; a symbol as it is
abbrev pub folded : Bool → List ℕ → List ℕ
folded true t = map upper t
folded false t = t

-- by its first byte, its length and its last two bytes
abbrev pub hash : List ℕ → ℕ
hash w = mixed (get_or w 0 0) (length w) (get_or w (length w - 1) 0) (get_or w (length w - 2) 0)

-- r is the code of the spelling that w is, or 0 where it is none
pub data CodeOf (w : List ℕ) : ℕ → Type 0 where
  none : ((j : ℕ) → j < spelling_count → same (spelling j) w ≡ false) → CodeOf w 0
  one : (j : ℕ) → j < spelling_count → w ≡ spelling j → CodeOf w (first_code + j)

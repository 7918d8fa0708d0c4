-- What the inner functions of interning go by: an identifier entered, and all of them.
use Rattle.std.specs.Prelude.{◌≡◌, true, false, List, ℕ, ◌+◌, ◌≤◌, ◌<◌, length, get_or, set}
use Rattle.std.proofs.lemmas.List.Edits.{sets}
use Rattle.express.specs.Tokens.Spelling.{spelling, symbols_of}
use Rattle.index.specs.Room.{enough}
use Rattle.chains.specs.Chains.{is_first}
use Rattle.chains.specs.Steps.{Lined, Places}
use Rattle.chains.specs.declared.Place.{Place}
use Rattle.chains.specs.declared.Place.TheVariants.{Known, Free}
use Rattle.symbols.specs.Interning.{Chained}

-- what is stored where a token is found a place: its symbol, its link and the head
abbrev pub symbol_by : ℕ → Place → ℕ
symbol_by i (Known k) = k
symbol_by i (Free b) = i

abbrev pub next_by : ℕ → Place → List ℕ → List ℕ → List ℕ
next_by i (Known k) heads next = next
next_by i (Free b) heads next = set next i (get_or heads b 0)

abbrev pub heads_by : ℕ → Place → List ℕ → List ℕ
heads_by i (Known k) heads = heads
heads_by i (Free b) heads = set heads b (i + 1)

-- all tokens have their symbols, and the identifiers their chains
module _ (bytes starts lengths terminals : List ℕ) where
  pub record Fills (symbols next symbols' heads' next' : List ℕ) : Type 0 where
    pub is : symbols' ≡ sets symbols 0 (symbols_of bytes starts lengths terminals)
    pub chains : Chained bytes starts lengths terminals heads' next'
    pub rest : (k : ℕ) → length starts ≤ k → get_or next' k 0 ≡ get_or next k 0
    pub others : (k : ℕ) → is_first bytes starts lengths terminals k ≡ false → get_or next' k 0 ≡ get_or next k 0

module _ (bytes starts lengths : List ℕ) where
  -- room for token i in all columns, and a bucket
  pub record ReadyToEnter (symbols heads next : List ℕ) (i : ℕ) : Type 0 where
    pub lined : Lined bytes starts lengths next (i + 1)
    pub stored : i < length symbols
    pub some : 0 < length heads
    pub small : i + 1 < 4294967296

  -- an identifier i is entered: its symbol is stored, and the first of its spelling becomes the head of its chain
  pub record Enters (i : ℕ) (symbols heads next symbols' heads' next' : List ℕ) : Type 0 where
    pub place : Place
    pub places : Places bytes starts lengths heads next (spelling bytes starts lengths i) i place
    pub stored : symbols' ≡ set symbols i (symbol_by i place)
    pub linked : next' ≡ next_by i place heads next
    pub begun : heads' ≡ heads_by i place heads

-- room, and no chain yet
pub record ReadyToFill (starts lengths symbols heads next : List ℕ) : Type 0 where
  pub room : enough (length starts) (length lengths) (length symbols) (length heads) (length next) ≡ true
  pub none : (b : ℕ) → get_or heads b 0 ≡ 0

-- Which identifiers are spelled alike, letters without case (T3).
use Rattle.std.specs.Prelude.{Bool, cond, ◌&&◌, List, map, ℕ, eqb, length, get_or}
use Rattle.express.specs.Tokens.Bytes.{token_bytes, lower, same}
use Rattle.express.specs.Tokens.Terminal.{the, identifier}
use Rattle.relations.specs.Select.{span, first_from}

-- the bytes of a token, in lower case
abbrev pub spelling : List ℕ → List ℕ → List ℕ → ℕ → List ℕ
spelling bytes starts lengths i = map lower (token_bytes bytes (get_or starts i 0) (get_or lengths i 0))

-- token i is an identifier, by the column of terminals (T20)
abbrev pub is_identifier : List ℕ → ℕ → Bool
is_identifier terminals i = eqb (get_or terminals i 0) (the identifier)

module _ (bytes starts lengths terminals : List ℕ) where
  -- token j is an identifier that is spelled like token i
  abbrev pub spelled_like : ℕ → ℕ → Bool
  spelled_like i j = let alike = same (spelling bytes starts lengths j) (spelling bytes starts lengths i) in is_identifier terminals j && alike

  -- The symbol of a token. Of an identifier: the least identifier that is spelled like it; so two identifiers have one symbol exactly when they
  -- are spelled alike (`symbol_iff` of proofs/tokens/Spelling). Of any other token: its own number, for names are identifiers, and nothing else
  -- is asked for its symbol.
  unfoldable pub symbol_of : ℕ → ℕ
  symbol_of i = let first = first_from (spelled_like i) 0 i in cond (is_identifier terminals i) first i

  unfoldable pub symbols_of : List ℕ
  symbols_of = map symbol_of (span 0 (length starts))

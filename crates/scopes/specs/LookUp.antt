-- What is found under a key: nothing, one entry, or several.
use Rattle.std.specs.Prelude.{◌≡◌, List, ℕ, ◌≤◌, ◌<◌, length, get_or}
use Rattle.relations.specs.Select.{span, keep}
use Rattle.express.specs.Syntax.Tree.{Table}
use Rattle.express.specs.Names.Scope as express
use Rattle.index.specs.Dictionary.{Indexed, has}
use Rattle.scopes.specs.Entries.{radix, key_of}
use Rattle.scopes.specs.Preparation.{Prepared}
use Rattle.scopes.specs.declared.look_ups.Meaning.{Meaning}
use Rattle.scopes.specs.declared.look_ups.Meaning.TheVariants.{Nothing, One, Several}

-- the numbers of the entries with a key
unfoldable pub numbers : List ℕ → ℕ → List ℕ
numbers keys key = keep (has keys key) (span 0 (length keys))

-- an answer as a meaning among the numbers of entries, and among nodes
abbrev pub entry_meant : Meaning → express.Meaning
entry_meant Nothing = express.none
entry_meant (One e) = express.one e
entry_meant Several = express.several

abbrev pub node_meant : List ℕ → Meaning → express.Meaning
node_meant nodes Nothing = express.none
node_meant nodes (One e) = express.one (get_or nodes e 0)
node_meant nodes Several = express.several

-- an entry that is given is one of so many
abbrev pub Within : ℕ → Meaning → Type 0
Within n Nothing = Unit {0}
Within n (One e) = e < n
Within n Several = Unit {0}

-- under one key
pub record Meant (keys heads next : List ℕ) (key : ℕ) (r : Meaning) : Type 0 where
  pub within : Within (length keys) r
  pub is : Indexed keys heads next → entry_meant r ≡ express.meaning (numbers keys key)

-- THE LOOK-UP: in the dictionary of any file it gives what the candidates among its nodes mean; whatever the columns hold, it ends, and an entry
-- that it gives is one of them
pub record Means (keys heads next : List ℕ) (candidates : Table → List ℕ) (r : Meaning) : Type 0 where
  pub within : Within (length keys) r
  pub is : (t : Table) (nodes : List ℕ) → Prepared t keys nodes heads next → node_meant nodes r ≡ express.meaning (candidates t)

-- under the key of a sort, a scope and a symbol; nothing where one of these is not below the radix
pub record UnderKey (keys heads next : List ℕ) (sort scope symbol : ℕ) (r : Meaning) : Type 0 where
  pub within : Within (length keys) r
  pub is : scope < radix → symbol < radix → Indexed keys heads next → entry_meant r ≡ express.meaning (numbers keys (key_of sort scope symbol))
  pub high_scope : radix ≤ scope → r ≡ Nothing
  pub high_symbol : radix ≤ symbol → r ≡ Nothing

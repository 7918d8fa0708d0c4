-- The dictionary of a file, in lent columns.
use Rattle.std.specs.Prelude.{◌≡◌, Bool, true, false, cond, List, [], ◌∷◌, map, ℕ, ◌≤◌, ◌<◌, eqb, leb, length, take, Result, Ok, Err}
use Rattle.std.proofs.lemmas.List.Edits.{sets}
use Rattle.express.specs.Syntax.Tree.{Table, count, token, symbol}
use Rattle.index.specs.Dictionary.{Indexed}
use Rattle.scopes.specs.Entries.{schemas, declared, sorts, radix, key_of, Entry, is_other, entries}
use Rattle.scopes.specs.declared.dictionary.Unfit.{Unfit}

-- a token and a role for each node, tokens that are there, and nodes and symbols below the radix
pub record Consistent (t : Table) : Type 0 where
  pub few : count t < radix
  pub tokens : count t ≤ length t.tokens
  pub roles : count t ≤ length t.roles
  pub inside : (n : ℕ) → n < count t → token t n < length t.symbols
  pub small : (n : ℕ) → n < count t → symbol t n < radix

-- room for a key, a node and a link for each entry, and a bucket or more
pub record Room (entries keys nodes heads next : ℕ) : Type 0 where
  pub keys_room : entries ≤ keys
  pub nodes_room : entries ≤ nodes
  pub heads_room : 0 < heads
  pub next_room : entries ≤ next

abbrev pub keys_of : List Entry → List ℕ
keys_of es = map (λ (e : Entry). e.key) es

abbrev pub nodes_of : List Entry → List ℕ
nodes_of es = map (λ (e : Entry). e.node) es

-- THE DICTIONARY of a file: the keys and the nodes of its entries, and the chains of the keys
pub record Prepared (t : Table) (keys nodes heads next : List ℕ) : Type 0 where
  pub consistent : Consistent t
  pub keys_is : keys ≡ keys_of (entries t)
  pub nodes_is : nodes ≡ nodes_of (entries t)
  pub indexed : Indexed keys heads next

-- The dictionary stands at the front of the columns: behind its entries, keys and nodes are as they were.
pub record Prepares (t : Table) (keys nodes keys' nodes' heads' next' : List ℕ) : Type 0 where
  pub prepared : Prepared t (take (length (entries t)) keys') (take (length (entries t)) nodes') heads' next'
  pub keys_kept : keys' ≡ sets keys 0 (keys_of (entries t))
  pub nodes_kept : nodes' ≡ sets nodes 0 (nodes_of (entries t))

-- Refused exactly where the columns do not fit each other or room is lacking; nothing is written then.
pub record Refused (t : Table) (keys nodes heads next keys' nodes' heads' next' : List ℕ) : Type 0 where
  pub no : Consistent t → Room (length (entries t)) (length keys) (length nodes) (length heads) (length next) → ⊥
  pub keys_kept : keys' ≡ keys
  pub nodes_kept : nodes' ≡ nodes
  pub heads_kept : heads' ≡ heads
  pub next_kept : next' ≡ next

abbrev pub Answers : Table → List ℕ → List ℕ → List ℕ → List ℕ → Result (Unit {0}) Unfit → List ℕ → List ℕ → List ℕ → List ℕ → Type 0
Answers t keys nodes heads next (Ok x) keys' nodes' heads' next' = Prepares t keys nodes keys' nodes' heads' next'
Answers t keys nodes heads next (Err e) keys' nodes' heads' next' = Refused t keys nodes heads next keys' nodes' heads' next'

-- ---- what the inner functions go by

-- what a test says: it is true exactly if P holds
pub record Decides (P : Type 0) (r : Bool) : Type 0 where
  pub yes : r ≡ true → P
  pub no : r ≡ false → P → ⊥

-- where a node stands, small enough to be entered
pub record Enterable (s schema owner node : ℕ) : Type 0 where
  pub sorted : s < sorts
  pub schema_small : schema < radix
  pub owner_small : owner < radix
  pub node_small : node < radix

abbrev pub entry : ℕ → ℕ → Entry
entry n k = record { node = n; key = k }

-- `scope` of express of a sort
abbrev pub scope_by : ℕ → ℕ → ℕ → ℕ
scope_by s schema owner = cond (leb s schemas) 0 (cond (eqb s declared) schema owner)

-- the entry of a node, where a test says that it has one
abbrev pub entry_if : Bool → Entry → List Entry
entry_if b e = cond b (e ∷ []) []

abbrev pub own_by : ℕ → ℕ → ℕ → ℕ → ℕ → Entry
own_by s schema owner symbol node = entry node (key_of s (scope_by s schema owner) symbol)

-- a column after the store of a node's entry: at its place among the declarations, or at its place behind them
pub record Entered (f : Entry → ℕ) (s schema owner vertex at symbol node : ℕ) (column column' : List ℕ) : Type 0 where
  pub is : column'
      ≡ sets (sets column vertex (map f (entry_if (eqb s declared) (own_by s schema owner symbol node)))) at
      (map f (entry_if (is_other s) (own_by s schema owner symbol node)))

-- a column after the stores of all entries
pub record Filled (f : Entry → ℕ) (t : Table) (column column' : List ℕ) : Type 0 where
  pub is : column' ≡ sets column 0 (map f (entries t))

-- The names of a file, from its bytes, its tokens and its nodes (N1 to N19).
use Rattle.std.specs.Prelude.{◌≡◌, ◌≢◌, true, List, ℕ, ◌≤◌, ◌<◌, length, get_or, take, Option, Some, Result, Ok, Err, IsErr}
use Rattle.relations.specs.Reach.{Joins}
use Rattle.relations.specs.Sorted.{Arranged}
use Rattle.express.specs.Syntax.Grammar.{file}
use Rattle.express.specs.Syntax.Syntax.{Read}
use Rattle.express.specs.Syntax.Tree.{Table, count}
use Rattle.express.specs.Tokens.Scanned.{Scanned}
use Rattle.express.specs.Names.Scope.{type_edges, bindings}
use Rattle.express.specs.Names.Fault.{constant_edges}
use Rattle.express.specs.Names.Names.{names}
use Rattle.index.specs.Room.{enough}
use Rattle.scopes.specs.Entries.{entries}
use Rattle.scopes.specs.Preparation.{Consistent, Room}
use Rattle.scopes.specs.Range.{vertex_count, declared_nodes}
use Rattle.faults.specs.Meaning.{number_of, fault_of}
use Rattle.faults.specs.declared.Fault.{Fault}
use Rattle.type_names.specs.TypeName.{FileColumns}
use Rattle.name_binding.specs.Binding.{NamesBound}
use Rattle.resolutions.specs.Answer.{StageRoom}
use Rattle.resolutions.specs.declared.Refusal.{Refusal}
use Rattle.resolutions.specs.declared.Refusal.TheVariants.{Faulty, Unfit}

-- the columns of a file that is read
pub record FileRead (src starts lengths terminals kinds tokens sizes roles : List ℕ) (t : Table) : Type 0 where
  pub scanned : Scanned t
  pub read : Read file t
  pub bytes_are : src ≡ t.bytes
  pub starts_are : starts ≡ t.starts
  pub lengths_are : lengths ≡ t.lengths
  pub terminals_are : terminals ≡ t.terminals
  pub kinds_are : kinds ≡ t.kinds
  pub tokens_are : tokens ≡ t.tokens
  pub sizes_are : sizes ≡ t.sizes
  pub roles_are : roles ≡ t.roles

-- ROOM in all columns: a byte for each role, which is one, a symbol and a link for each token, a key, a node and a link for each entry of the dictionary, and
-- what the stages write
pub record NamesRoom (t : Table) (roles symbols keys nodes heads next first to types constants scratch : ℕ) : Type 0 where
  pub role_room : count t ≤ roles
  pub small_roles : (n : ℕ) → n < count t → get_or t.roles n 0 < 256
  pub symbol_room : enough (length t.starts) (length t.lengths) symbols heads scratch ≡ true
  pub consistent : Consistent t
  pub entry_room : Room (length (entries t)) keys nodes heads next
  pub stage_room : StageRoom (length t.starts) (vertex_count t) first to types constants scratch

-- THE ANSWER: no fault, each node bound as the scope rules say, and two orders of the declarations; or the fault; or no room
abbrev pub Resolved : Table → Result (Unit {0}) Refusal → List ℕ → List ℕ → List ℕ → Type 0
Resolved t (Ok x) bindings' types constants =
    ((names t).number ≡ 0) × (bindings' ≡ bindings t)
    × Arranged (Joins (type_edges t)) (declared_nodes t) (take (vertex_count t) types)
    × Arranged (Joins (constant_edges t)) (declared_nodes t) (take (vertex_count t) constants)
Resolved t (Err (Faulty f)) bindings' types constants = (names t ≡ fault_of (Some f)) × (number_of f.reply ≢ 0)
Resolved t (Err Unfit) bindings' types constants = Unit {0}

-- `resolve`: of every file that is read; the column of bindings holds the roles before. Whatever the columns hold, it is as it was unless all names are bound. No room
-- is answered only where some is lacking. What the other lent columns hold afterwards is left free, and so are both orders after a fault.
pub record Resolves (src starts lengths terminals kinds tokens sizes bindings roles symbols keys nodes heads next first to types constants scratch : List ℕ)
    (r : Result (Unit {0}) Refusal) (bindings' types' constants' : List ℕ) : Type 0 where
  pub kept : IsErr r → bindings' ≡ bindings
  pub is : (t : Table) → FileRead src starts lengths terminals kinds tokens sizes bindings t → Resolved t r bindings' types' constants'
  pub unfit :
      r ≡ Err Unfit → (t : Table) → FileRead src starts lengths terminals kinds tokens sizes bindings t →
      NamesRoom t (length roles) (length symbols) (length keys) (length nodes) (length heads) (length next) (length first) (length to) (length types) (length constants) (length scratch) → ⊥

-- ---- what the inner functions go by

-- `bind_prepared`: the dictionary stands at the front of its columns
pub record BindsPrepared (kinds tokens sizes roles symbols starts keys nodes heads next bound : List ℕ) (vertices entries : ℕ) (r : Option Fault) (bound' types' constants' : List ℕ) : Type 0 where
  pub is :
      (t : Table) → Scanned t → FileColumns t kinds tokens roles symbols starts (take entries keys) (take entries nodes) heads next → sizes ≡ t.sizes → vertices ≡ vertex_count t →
      count t ≤ length bound → NamesBound t r bound' types' constants'

-- `resolve_roles`: with the roles in a column of bytes, as many as there are bindings; after a fault they are put back
pub record ResolvesRoles (src starts lengths terminals kinds tokens sizes roles bindings symbols keys nodes heads next first to types constants scratch : List ℕ)
    (r : Result (Unit {0}) Refusal) (bindings' types' constants' : List ℕ) : Type 0 where
  pub kept : r ≡ Err Unfit → bindings' ≡ bindings
  pub put_back : (f : Fault) → r ≡ Err (Faulty f) → length bindings ≡ length roles → bindings' ≡ roles
  pub is : (t : Table) → FileRead src starts lengths terminals kinds tokens sizes roles t → length bindings ≡ length roles → Resolved t r bindings' types' constants'
  pub unfit :
      r ≡ Err Unfit → (t : Table) → FileRead src starts lengths terminals kinds tokens sizes roles t →
      NamesRoom t (length roles) (length symbols) (length keys) (length nodes) (length heads) (length next) (length first) (length to) (length types) (length constants) (length scratch) → ⊥

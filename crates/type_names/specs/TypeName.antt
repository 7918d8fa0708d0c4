-- The names of types and supertypes (N5 to N7).
use Rattle.std.specs.Prelude.{◌≡◌, Bool, true, cond, not, ◌&&◌, ◌||◌, List, ℕ, ◌+◌, ◌<◌, eqb, get_or}
use Rattle.express.specs.Syntax.NodeKind.{name, type, entity, in_expression, renamed_type, select_name, supertype_name}
use Rattle.express.specs.Syntax.Tree.{Table, is, schema_of}
use Rattle.express.specs.Syntax.Grammar.{file}
use Rattle.express.specs.Syntax.Syntax.{Read}
use Rattle.express.specs.Names.Scope.{meaning, declarations, is_use, binding_of, binding}
use Rattle.express.specs.Names.Fault as express
use Rattle.scopes.specs.Preparation.{Prepared}
use Rattle.faults.specs.Meaning.{fault_of}
use Rattle.dependencies.specs.Target.{target_of, type_target}
use Rattle.type_names.specs.Pass.{Pass, Finds}
use Rattle.type_names.specs.declared.Finding.{Finding}

-- the name of a type or of a supertype: any name that does not stand for a value
abbrev pub is_type_name : Table → ℕ → Bool
is_type_name t n = is t name n && not (is_use t n)

-- the pass over them: of each its fault, its arc and its binding; the column holds zeros before
abbrev pub type_names : Table → Pass
type_names t =
    record {
      stage = express.type_name_fault t;
      target = type_target t;
      entry = λ n. cond (is_type_name t n) (binding t n) 0;
      entry_before = λ n. 0;
    }

-- ---- of a kind and a role: what `is_type_name`, `suits` and `type_target` say of a node that has them

abbrev pub is_type_name_by : ℕ → ℕ → Bool
is_type_name_by kind role = eqb kind name && not (eqb role in_expression)

abbrev pub suits_by : ℕ → ℕ → Bool
suits_by role kind = cond (eqb role renamed_type) (eqb kind type) (cond (eqb role supertype_name) (eqb kind entity) (eqb kind type || eqb kind entity))

abbrev pub makes_arc : ℕ → Bool
makes_arc role = eqb role renamed_type || eqb role select_name || eqb role supertype_name

abbrev pub target_by : ℕ → ℕ → ℕ
target_by role vertex = cond (makes_arc role) vertex 0

-- ---- what is found

-- a name at place p that means nothing, or several declarations
pub record Unbound (number p : ℕ) (f : Finding) : Type 0 where
  pub fault_is : fault_of f.fault ≡ express.fault number p
  pub binding_none : f.binding ≡ 0
  pub target_none : f.target ≡ 0

-- a name in a role, at place p, that means the declaration with this number
pub record BoundTo (kinds nodes : List ℕ) (role vertex p : ℕ) (f : Finding) : Type 0 where
  pub fault_is : fault_of f.fault ≡ cond (suits_by role (get_or kinds (get_or nodes vertex 0) 0)) express.fine (express.fault 11 p)
  pub binding_is : get_or nodes vertex 0 + 1 < 4294967296 → f.binding ≡ get_or nodes vertex 0 + 1
  pub target_is : vertex + 1 < 4294967296 → f.target ≡ target_by role (vertex + 1)

-- a name in a role, at place p, by the declarations of a schema with its symbol
pub record TypeNameMeant (kinds keys nodes heads next : List ℕ) (role schema symbol p : ℕ) (f : Finding) : Type 0 where
  pub fault_is :
      (t : Table) → kinds ≡ t.kinds → Prepared t keys nodes heads next →
      fault_of f.fault ≡ express.judged (express.suits t role) (meaning (declarations t schema symbol)) p
  pub binding_is : (t : Table) → Prepared t keys nodes heads next → f.binding ≡ binding_of (meaning (declarations t schema symbol))
  pub target_is : (t : Table) → Prepared t keys nodes heads next → f.target ≡ target_by role (target_of t (meaning (declarations t schema symbol)))

-- the columns of a file, and of its dictionary
pub record FileColumns (t : Table) (kinds tokens roles symbols starts keys nodes heads next : List ℕ) : Type 0 where
  pub read : Read file t
  pub kinds_are : kinds ≡ t.kinds
  pub tokens_are : tokens ≡ t.tokens
  pub roles_are : roles ≡ t.roles
  pub symbols_are : symbols ≡ t.symbols
  pub starts_are : starts ≡ t.starts
  pub prepared : Prepared t keys nodes heads next

-- a node of which the schema is known
pub record FoundTypeName (kinds tokens roles symbols starts keys nodes heads next : List ℕ) (schema n : ℕ) (f : Finding) : Type 0 where
  pub is :
      (t : Table) → FileColumns t kinds tokens roles symbols starts keys nodes heads next → schema ≡ schema_of t n → is_type_name t n ≡ true →
      Finds (type_names t) n f

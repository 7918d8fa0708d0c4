-- What is found of a name: its fault (N11, N12), its binding (N18), and the constant that it names (N17).
use Rattle.std.specs.Prelude.{◌≡◌, Bool, true, cond, ◌||◌, List, ℕ, ◌+◌, ◌<◌, eqb, get_or, Option}
use Rattle.express.specs.Syntax.NodeKind.{enumeration_item, constant, attribute_name, derived_attribute}
use Rattle.express.specs.Syntax.Tree.{Table, count}
use Rattle.express.specs.Names.Scope.{Meaning, one, meaning, declarations, qualified_meant, items_of, binding_of}
use Rattle.express.specs.Names.Fault as express
use Rattle.scopes.specs.Preparation.{Prepared}
use Rattle.dependencies.specs.Target.{constant_of}
use Rattle.faults.specs.Meaning.{fault_of}
use Rattle.faults.specs.declared.Fault.{Fault}
use Rattle.meanings.specs.Use.{StandsFor}
use Rattle.meanings.specs.declared.Use.{Use}
use Rattle.type_names.specs.declared.Finding.{Finding}

-- N12: `is_value` of express, of a node of a kind
abbrev pub value_kind : ℕ → Bool
value_kind kind = (eqb kind attribute_name || eqb kind derived_attribute) || eqb kind constant || eqb kind enumeration_item

-- bindings and targets are numbers of 32 bits
abbrev pub limit : ℕ
limit = 4294967296

pub record Made (fault : Option Fault) (binding target : ℕ) (f : Finding) : Type 0 where
  pub fault_is : f.fault ≡ fault
  pub binding_is : f.binding ≡ binding
  pub target_is : f.target ≡ target

pub record OneMore (n r : ℕ) : Type 0 where
  pub is : n + 1 < limit → r ≡ n + 1

-- the target of a declaration of a kind, by its number among the declarations
pub record TargetOf (kind vertex r : ℕ) : Type 0 where
  pub is : vertex + 1 < limit → r ≡ cond (eqb kind constant) (vertex + 1) 0

-- OF A NAME with a meaning that must pass a test
pub record FoundName (t : Table) (right : ℕ → Bool) (m : Meaning) (p : ℕ) (f : Finding) : Type 0 where
  pub fault_is : fault_of f.fault ≡ express.judged right m p
  pub binding_is : f.binding ≡ binding_of m
  pub target_is : f.target ≡ constant_of t m

-- by a node, and by a declaration
pub record NodeFinding (kinds : List ℕ) (k p : ℕ) (f : Finding) : Type 0 where
  pub fault_is : fault_of f.fault ≡ express.judged (λ _. value_kind (get_or kinds k 0)) (one k) p
  pub binding_is : k + 1 < limit → f.binding ≡ k + 1
  pub target_is : f.target ≡ 0

pub record DeclarationFinding (kinds nodes : List ℕ) (v p : ℕ) (f : Finding) : Type 0 where
  pub fault_is : fault_of f.fault ≡ express.judged (λ _. value_kind (get_or kinds (get_or nodes v 0) 0)) (one v) p
  pub binding_is : get_or nodes v 0 + 1 < limit → f.binding ≡ get_or nodes v 0 + 1
  pub target_is : v + 1 < limit → f.target ≡ cond (eqb (get_or kinds (get_or nodes v 0) 0) constant) (v + 1) 0

-- a name in an expression
pub record UseFinding (kinds nodes : List ℕ) (u : Use) (p : ℕ) (f : Finding) : Type 0 where
  pub found : (t : Table) (keys heads next : List ℕ) → kinds ≡ t.kinds → Prepared t keys nodes heads next → (m : Meaning) → StandsFor t nodes m u →
      FoundName t (express.is_value t) m p f

-- N13: a type that is declared as an enumeration
pub record TellsEnumeration (kinds sizes : List ℕ) (n : ℕ) (r : Bool) : Type 0 where
  pub is : (t : Table) → kinds ≡ t.kinds → sizes ≡ t.sizes → 0 < get_or sizes n 0 → r ≡ express.is_enumeration t n

-- N14: an item of a type y
pub record ItemFinding (keys nodes heads next : List ℕ) (y s p : ℕ) (f : Finding) : Type 0 where
  pub fault_is : (t : Table) → Prepared t keys nodes heads next → fault_of f.fault ≡ express.judged (λ _. true) (meaning (items_of t y s)) p
  pub binding_is : (t : Table) → Prepared t keys nodes heads next → f.binding ≡ binding_of (meaning (items_of t y s))

-- N13, N14: the item s of the type that an entry stands for, in a file of which each node has a size
pub record TypeFinding (kinds sizes keys nodes heads next : List ℕ) (v yp s p : ℕ) (f : Finding) : Type 0 where
  pub fault_is : (t : Table) → kinds ≡ t.kinds → sizes ≡ t.sizes → Prepared t keys nodes heads next → 0 < get_or sizes (get_or nodes v 0) 0 →
      fault_of f.fault ≡ express.or_later (express.judged (express.is_enumeration t) (one (get_or nodes v 0)) yp) (express.judged (λ _. true) (meaning (items_of t (get_or nodes v 0) s)) p)
  pub binding_is : (t : Table) → Prepared t keys nodes heads next → f.binding ≡ binding_of (meaning (items_of t (get_or nodes v 0) s))
  pub target_is : f.target ≡ 0

-- N13, N14: `type.item` of the spellings y and s in a schema h
pub record QualifiedFinding (kinds sizes keys nodes heads next : List ℕ) (h y yp s p : ℕ) (f : Finding) : Type 0 where
  pub fault_is : (t : Table) → kinds ≡ t.kinds → sizes ≡ t.sizes → Prepared t keys nodes heads next → ((n : ℕ) → n < count t → 0 < get_or sizes n 0) →
      fault_of f.fault ≡ express.or_later (express.judged (express.is_enumeration t) (meaning (declarations t h y)) yp) (express.judged (λ _. true) (qualified_meant t h y s) p)
  pub binding_is : (t : Table) → Prepared t keys nodes heads next → f.binding ≡ binding_of (qualified_meant t h y s)
  pub target_is : f.target ≡ 0

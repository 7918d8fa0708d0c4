-- What a name in an expression means, as the code answers it.
use Rattle.std.specs.Prelude.{◌≡◌, false, List, ℕ, ◌<◌, get_or}
use Rattle.relations.specs.Select.{nearest}
use Rattle.express.specs.Syntax.NodeKind.{constant}
use Rattle.express.specs.Syntax.Tree.{Table, count, is}
use Rattle.express.specs.Names.Scope.{Meaning, none, one, several, meaning, own, inherited, declarations, items, value_meant}
use Rattle.scopes.specs.Range.{vertex_count}
use Rattle.scopes.specs.Preparation.{Prepared}
use Rattle.scopes.specs.LookUp.{node_meant}
use Rattle.scopes.specs.declared.look_ups.Meaning as entries
use Rattle.meanings.specs.declared.Use.{Use}
use Rattle.meanings.specs.declared.Use.TheVariants.{Nothing, Several, Node, Declaration}

-- an answer as a meaning: a declaration by its number among these, which is the number of its entry in the dictionary
abbrev pub use_meaning : List ℕ → Use → Meaning
use_meaning nodes Nothing = none
use_meaning nodes Several = several
use_meaning nodes (Node k) = one k
use_meaning nodes (Declaration v) = one (get_or nodes v 0)

-- what is answered by its node is no constant, a number is that of a declaration, and both are of the file
abbrev pub Sorted : Table → Use → Type 0
Sorted t Nothing = Unit {0}
Sorted t Several = Unit {0}
Sorted t (Node k) = (k < count t) × (is t constant k ≡ false)
Sorted t (Declaration v) = v < vertex_count t

-- an answer that stands for a meaning in a file
pub record StandsFor (t : Table) (nodes : List ℕ) (m : Meaning) (r : Use) : Type 0 where
  pub is : use_meaning nodes r ≡ m
  pub sorted : Sorted t r

-- in the dictionary of any file, what a symbol means in a schema, given what it means among the items of the schema
pub record ValueMeans (keys heads next : List ℕ) (item : Use) (h s : ℕ) (r : Use) : Type 0 where
  pub stands : (t : Table) (nodes : List ℕ) → Prepared t keys nodes heads next → StandsFor t nodes (meaning (items t h s)) item → StandsFor t nodes (value_meant t h s) r

-- an entry by its node
pub record ByNode (nodes : List ℕ) (m : entries.Meaning) (r : Use) : Type 0 where
  pub meant : use_meaning nodes r ≡ node_meant nodes m
  pub sorted : (t : Table) → ((k : ℕ) → node_meant nodes m ≡ one k → (k < count t) × (is t constant k ≡ false)) → Sorted t r

-- N9, N10: an inherited attribute, else what the name means in the schema, in a declaration o of a schema h
abbrev pub inherited_or_value : Table → ℕ → ℕ → ℕ → Meaning
inherited_or_value t o h s = meaning (nearest (inherited t o s) (nearest (declarations t h s) (items t h s)))

-- N10
abbrev pub use_meant : Table → ℕ → ℕ → ℕ → Meaning
use_meant t o h s = meaning (nearest (own t o s) (nearest (inherited t o s) (nearest (declarations t h s) (items t h s))))

-- given what is inherited too
pub record InheritedOrValue (keys heads next : List ℕ) (given item : Use) (h s : ℕ) (r : Use) : Type 0 where
  pub stands : (t : Table) (nodes : List ℕ) → Prepared t keys nodes heads next → (o : ℕ) → StandsFor t nodes (meaning (inherited t o s)) given →
      StandsFor t nodes (meaning (items t h s)) item → StandsFor t nodes (inherited_or_value t o h s) r

pub record InDeclaration (keys nodes heads next : List ℕ) (given item : Use) (o h s : ℕ) (r : Use) : Type 0 where
  pub stands : (t : Table) → Prepared t keys nodes heads next → StandsFor t nodes (meaning (inherited t o s)) given → StandsFor t nodes (meaning (items t h s)) item →
      StandsFor t nodes (use_meant t o h s) r

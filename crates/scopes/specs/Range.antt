-- The constants, types and entities of a file by their numbers, and the nodes of each: those behind the declaration before it, up to itself.
use Rattle.std.specs.Prelude.{◌≡◌, cond, List, ℕ, ◌+◌, ◌-◌, ◌<◌, eqb, get_or}
use Rattle.relations.specs.Select.{keep}
use Rattle.express.specs.Syntax.Tree.{Table, count, nodes, is_declaration, schema_of}
use Rattle.scopes.specs.Entries.{vertex}
use Rattle.scopes.specs.Preparation.{Prepared}
use Rattle.scopes.specs.declared.Extent.{Extent}

abbrev pub declared_nodes : Table → List ℕ
declared_nodes t = keep (is_declaration t) (nodes t)

-- how many there are
abbrev pub vertex_count : Table → ℕ
vertex_count t = vertex t (count t)

-- the node of a number
abbrev pub node_of : Table → ℕ → ℕ
node_of t v = get_or (declared_nodes t) v 0

-- the first node behind the declaration before it; of the number of declarations: the first node behind all of them
abbrev pub range_start : Table → ℕ → ℕ
range_start t v = cond (eqb v 0) 0 (node_of t (v - 1) + 1)

-- what the columns of a file's dictionary say of a number
pub record DeclarationAt (keys nodes : List ℕ) (v : ℕ) (d : Extent) : Type 0 where
  pub node_is : (t : Table) (heads next : List ℕ) → Prepared t keys nodes heads next → v < vertex_count t → d.node ≡ node_of t v
  pub from_is : (t : Table) (heads next : List ℕ) → Prepared t keys nodes heads next → v < vertex_count t → d.from ≡ range_start t v
  pub schema_is : (t : Table) (heads next : List ℕ) → Prepared t keys nodes heads next → v < vertex_count t → d.schema ≡ schema_of t (node_of t v)

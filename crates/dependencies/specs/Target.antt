-- The arcs between the declarations of a file: a target for each node, 0 for none, else one more than the vertex that its name means.
use Rattle.std.specs.Prelude.{◌≡◌, Bool, true, cond, not, ◌||◌, List, map, ℕ, ◌+◌, ◌-◌, ◌≤◌, ◌<◌, eqb}
use Rattle.relations.specs.Select.{span, keep}
use Rattle.relations.specs.Reach.{Edge, Joins}
use Rattle.express.specs.Syntax.NodeKind.{constant, renamed_type, select_name, supertype_name}
use Rattle.express.specs.Syntax.Tree.{Table, count, is, is_name_in, is_declaration, owner}
use Rattle.express.specs.Names.Scope.{Meaning, none, one, several, is_use, means}
use Rattle.scopes.specs.Entries.{vertex}
use Rattle.scopes.specs.Range.{vertex_count, range_start}

-- no target where there is no vertex, and none of a declaration itself
pub record Targets (t : Table) (target : ℕ → ℕ) : Type 0 where
  pub below : (n : ℕ) → target n ≤ vertex_count t
  pub none : (n : ℕ) → is_declaration t n ≡ true → target n ≡ 0

-- the vertices that some nodes lead to, in the order of the nodes
unfoldable pub led_to : (ℕ → ℕ) → List ℕ → List ℕ
led_to target ns = map (λ n. target n - 1) (keep (λ n. not (eqb (target n) 0)) ns)

-- the first node behind all declarations
abbrev pub behind_all : Table → ℕ
behind_all t = range_start t (vertex_count t)

-- those of the nodes from i on
abbrev pub led_to_from : Table → (ℕ → ℕ) → ℕ → List ℕ
led_to_from t target i = led_to target (span i (behind_all t - i))

-- a node in the declaration x leads to the declaration y
pub record Leads (t : Table) (target : ℕ → ℕ) (x y : ℕ) : Type 0 where
  pub node : ℕ
  pub known : node < count t
  pub owned : owner t node ≡ x
  pub source : is_declaration t x ≡ true
  pub target_known : y < count t
  pub declared : is_declaration t y ≡ true
  pub target_is : target node ≡ vertex t y + 1

-- The arcs of a file as edges between its nodes, from nodes that pass a test: each edge is an arc, and an arc is an edge where another arc leads to its
-- start. So both have the same cycles.
pub record Edges (t : Table) (target : ℕ → ℕ) (p : ℕ → Bool) (es : List Edge) : Type 0 where
  pub starts : (x y : ℕ) → Joins es x y → p x ≡ true
  pub arc : (x y : ℕ) → Joins es x y → Leads t target x y
  pub edge : (w x y : ℕ) → Leads t target w x → Leads t target x y → Joins es x y

-- ---- the two graphs of a file

-- one more than the vertex of the one declaration that is meant
abbrev pub target_of : Table → Meaning → ℕ
target_of t none = 0
target_of t several = 0
target_of t (one y) = vertex t y + 1

-- N7: the names of what is renamed, selected or a supertype
abbrev pub type_target : Table → ℕ → ℕ
type_target t n = cond (is_name_in t renamed_type n || is_name_in t select_name n || is_name_in t supertype_name n) (target_of t (means t n)) 0

abbrev pub constant_of : Table → Meaning → ℕ
constant_of t none = 0
constant_of t several = 0
constant_of t (one y) = cond (is t constant y) (vertex t y + 1) 0

-- N17: the names of constants in expressions. Those in types and entities too: to these no arc leads, so that they lie on no cycle.
abbrev pub constant_target : Table → ℕ → ℕ
constant_target t n = cond (is_use t n) (constant_of t (means t n)) 0

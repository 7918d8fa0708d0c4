-- An order of the constants in which each stands after all that it reaches (N17): evaluation needs one, and any will do.
use Rattle.std.specs.Prelude.{◌≡◌, ℕ, suc, ◌≤◌, ◌<◌, eqb, length}
use mathlib.Core.List.{List, [], flat_map, Memᴰ}
use Rattle.express.specs.Syntax.NodeKind.{constant}
use Rattle.express.specs.Syntax.Tree.{Table, count, kind, first, owner}
use Rattle.relations.specs.Select.{span, keep}
use Rattle.relations.specs.Reach.{Reaches, reaches}
use Rattle.relations.specs.Sorted.{Sorted}
use Rattle.express.specs.Names.Fault.{constant_edges}
use Rattle.express.specs.Semantics.Shape.{name, shape}
use Rattle.express.specs.Semantics.Kind.{constants}

-- a node of the declaration d names the constant c
pub record Uses (t : Table) (b : List ℕ) (d c : ℕ) : Type 0 where
  pub node : ℕ
  pub owned : owner t node ≡ d
  pub from : first t d ≤ node
  pub names : shape t b node ≡ name c

-- the answer of d needs that of the constant c: it is reached over uses
pub record Needs (t : Table) (b : List ℕ) (d c : ℕ) : Type 0 where
  pub is_constant : kind t c ≡ constant
  pub reached : Reaches (Uses t b) d c

-- all constants, each once it is known what it needs
pub record Order (t : Table) (b : List ℕ) (ds : List ℕ) : Type 0 where
  pub sorted : Sorted (Needs t b) [] ds
  pub among : (c : ℕ) → Memᴰ c ds → (c < count t) × (kind t c ≡ constant)
  pub complete : (c : ℕ) → c < count t → kind t c ≡ constant → Memᴰ c ds

-- One such order of a file without cycles, `order_is` of proofs/kinds/ConstantOrder: the constants by how many constants each leads to.
abbrev pub reach_count : Table → ℕ → ℕ
reach_count t c = length (keep (reaches (constant_edges t) c) (constants t))

unfoldable pub constant_order : Table → List ℕ
constant_order t = flat_map (λ i. keep (λ c. eqb (reach_count t c) i) (constants t)) (span 0 (suc (length (constants t))))

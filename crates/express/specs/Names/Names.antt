-- What is said of the names of a file: the five stages of N19.
use Rattle.std.specs.Prelude.{◌≡◌, ◌≢◌, cond, ℕ, ◌≤◌, eqb, leb}
use mathlib.Core.List.{List, [], ◌∷◌, Memᴰ}
use Rattle.express.specs.Syntax.Tree.{Table, nodes, is, is_declaration}
use Rattle.express.specs.Syntax.NodeKind.{constant}
use Rattle.express.specs.Names.Scope.{type_edges}
use Rattle.express.specs.Names.Fault.{Fault, fine, or_later, repeated, type_name_fault, cyclic, expression, constant_edges}

-- a stage gives each node its fault, or none
abbrev pub Stage : Type 0
Stage = ℕ → Fault

-- N19, in this order: 9; 10 and 11 of types and supertypes; 13 of these; 10 to 12 of expressions, and clashes; 13 of constants
unfoldable pub stages : Table → List Stage
stages t = repeated t ∷ type_name_fault t ∷ cyclic t (is_declaration t) (type_edges t) ∷ expression t ∷ cyclic t (is t constant) (constant_edges t) ∷ []

-- N19: of two faults of a stage the one with the smaller place
abbrev pub sooner : Fault → Fault → Fault
sooner f g = cond (eqb f.number 0) g (cond (eqb g.number 0) f (cond (leb f.place g.place) f g))

unfoldable pub least : Stage → List ℕ → Fault
least s [] = fine
least s (n ∷ ns) = sooner (s n) (least s ns)

-- N19, R3: the fault of the first stage that has one
unfoldable pub first_fault : List Stage → List ℕ → Fault
first_fault [] ns = fine
first_fault (s ∷ ss) ns = or_later (least s ns) (first_fault ss ns)

unfoldable pub names : Table → Fault
names t = first_fault (stages t) (nodes t)

-- The same for the reader: `names_passes`, `names_refused` and `names_only` of proofs/names/Names.
-- A stage passes when each node is fine.
abbrev pub Passes : List ℕ → Stage → Type 0
Passes ns s = (n : ℕ) → Memᴰ n ns → (s n).number ≡ 0

-- R17: no stage finds a fault
pub record WellNamed (t : Table) : Type 0 where
  pub once : Passes (nodes t) (repeated t)
  pub types : Passes (nodes t) (type_name_fault t)
  pub type_cycles : Passes (nodes t) (cyclic t (is_declaration t) (type_edges t))
  pub expressions : Passes (nodes t) (expression t)
  pub constant_cycles : Passes (nodes t) (cyclic t (is t constant) (constant_edges t))

-- f is a fault of the stage, and no fault of it has a smaller place
pub record Least (ns : List ℕ) (s : Stage) (f : Fault) : Type 0 where
  pub node : ℕ
  pub among : Memᴰ node ns
  pub is : s node ≡ f
  pub fault : f.number ≢ 0
  pub least : (n : ℕ) → Memᴰ n ns → (s n).number ≢ 0 → f.place ≤ (s n).place

-- the stages before it pass, and f is the least fault of the next
pub data StageFault (ns : List ℕ) (f : Fault) : List Stage → Type 0 where
  here : {s : Stage} {ss : List Stage} → Least ns s f → StageFault ns f (s ∷ ss)
  later : {s : Stage} {ss : List Stage} → Passes ns s → StageFault ns f ss → StageFault ns f (s ∷ ss)

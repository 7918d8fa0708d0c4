-- The answers of relations and intervals, from those of their operands (K22, K23, K25).
use Rattle.std.specs.Prelude.{◌≡◌, true, List, ℕ, ℤ}
use Rattle.express.specs.Syntax.NodeKind as node
use Rattle.express.specs.Syntax.Tree.{Table, terminal, last, left, low, middle, lower, upper}
use Rattle.express.specs.Semantics.Answer.{Answer}
use Rattle.express.specs.Semantics.Shape.{operator_of, bound_of}
use Rattle.express.specs.Semantics.Operate.{between}
use Rattle.operations.specs.declared.Answer as operations
use Rattle.node_answers.specs.Answers.{Gives}
use Rattle.node_answers.specs.Operators.{combined_by}
use Rattle.string_relations.specs.Comparing.{Operand, is_relation}

module _ (bytes starts lengths terminals kinds tokens sizes bindings file_kinds row_of : List ℕ) (at : ℕ) (aks : List ℕ) (azs : List ℤ) (als room vks : List ℕ) (vzs : List ℤ) (vls : List ℕ) where
  -- x is the answer of node a
  abbrev pub Of : ℕ → Answer → Type 0
  Of a x = Operand bytes starts lengths terminals kinds tokens sizes bindings file_kinds row_of at aks azs als room vks vzs vls a x

  -- K23: a relation, from the answers of its two operands
  pub record RelatesOperands (n : ℕ) (r : operations.Answer) : Type 0 where
    pub is :
        (e : Table) → e.terminals ≡ terminals → e.tokens ≡ tokens → e.sizes ≡ sizes → is_relation (terminal e n) ≡ true → (x y : Answer) → Of (left e n) x → Of (last n) y →
        Gives r (combined_by (operator_of (terminal e n)) x y)

  -- K25: an interval, from the answers of its low side, item and high side
  pub record ComparesItem (n : ℕ) (r : operations.Answer) : Type 0 where
    pub is :
        (e : Table) → e.terminals ≡ terminals → e.tokens ≡ tokens → e.sizes ≡ sizes → (x y z : Answer) → Of (low e n) x → Of (middle e n) y → Of (last n) z →
        Gives r (between (bound_of (terminal e (lower e n))) (bound_of (terminal e (upper e n))) x y z)

  -- a node of kind k that may compare strings
  pub record Compared (k n : ℕ) (r : operations.Answer) : Type 0 where
    pub interval : k ≡ node.interval → ComparesItem n r
    pub relation : (k ≡ node.interval → ⊥) → RelatesOperands n r

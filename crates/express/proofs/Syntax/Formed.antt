-- What the rows of an expression and of a constant are like, as far as typing and evaluation go by it. It holds of every file that the
-- grammar derives, by the lists of children that its rules give.
use mathlib.Core.Path.{◌≡◌}
use mathlib.Core.Bool.{true}
use Prim.Native.Nat.{ℕ, ◌+◌, ◌≤◌, ◌<◌}
use Rattle.ebnf.specs.Set.{mem}
use Rattle.express.specs.Syntax.Tree.{Table, count, kind, size, last, left, upper, middle, lower, low, type_node}
use Rattle.express.specs.Syntax.NodeKind as node
use Rattle.express.proofs.Syntax.KindSets.{expression_kinds, base_kinds, leaf_kinds}

pub record One (t : Table) (n : ℕ) : Type 0 where
  pub operand : mem (kind t (last n)) expression_kinds ≡ true
  pub all : size t n ≡ size t (last n) + 1

pub record Two (t : Table) (n : ℕ) : Type 0 where
  pub left_operand : mem (kind t (left t n)) expression_kinds ≡ true
  pub right_operand : mem (kind t (last n)) expression_kinds ≡ true
  pub all : size t n ≡ size t (left t n) + size t (last n) + 1

pub record Five (t : Table) (n : ℕ) : Type 0 where
  pub low_operand : mem (kind t (low t n)) expression_kinds ≡ true
  pub lower_operator : kind t (lower t n) ≡ node.interval_operator
  pub item : mem (kind t (middle t n)) expression_kinds ≡ true
  pub upper_operator : kind t (upper t n) ≡ node.interval_operator
  pub high_operand : mem (kind t (last n)) expression_kinds ≡ true
  pub all : size t n ≡ size t (low t n) + 1 + size t (middle t n) + 1 + size t (last n) + 1

-- the children of a constant: its type and its expression
pub record Pair (t : Table) (n : ℕ) : Type 0 where
  pub base : mem (kind t (type_node t n)) base_kinds ≡ true
  pub value : mem (kind t (last n)) expression_kinds ≡ true
  pub all : size t n ≡ 1 + size t (last n) + 1

pub record Formed (t : Table) : Type 0 where
  pub some : (n : ℕ) → n < count t → 1 ≤ size t n
  pub inside : (n : ℕ) → n < count t → size t n ≤ n + 1
  pub leaf : (n : ℕ) → n < count t → mem (kind t n) leaf_kinds ≡ true → size t n ≡ 1
  pub unary : (n : ℕ) → n < count t → kind t n ≡ node.unary → One t n
  pub operator : (n : ℕ) → n < count t → kind t n ≡ node.two_operand → Two t n
  pub interval : (n : ℕ) → n < count t → kind t n ≡ node.interval → Five t n
  pub constant : (n : ℕ) → n < count t → kind t n ≡ node.constant → Pair t n

-- Relations and intervals of strings (K22, K23, K25), read from columns: while nodes are evaluated a string is its length, and where two are compared their
-- bytes are those of their leaves.
use Rattle.std.specs.Prelude.{◌≡◌, Bool, true, false, ◌&&◌, ◌||◌, List, ℕ, ◌+◌, ◌-◌, ◌≤◌, ◌<◌, eqb, ℤ, length, get_or}
use Rattle.std.proofs.Math.Option.{Option, none, some}
use Rattle.express.specs.Syntax.NodeKind as node
use Rattle.express.specs.Syntax.Tree.{Table, last, middle}
use Rattle.express.specs.Tokens.Lexis.{most_bytes}
use Rattle.express.specs.Semantics.Answer.{Answer, string}
use Rattle.express.specs.Semantics.AnswerRow.{bytes_of}
use Rattle.express.specs.Semantics.Strings.{compare_bytes}
use Rattle.express.specs.Semantics.Relation.{Relation}
use Rattle.express.specs.Semantics.Shape.{Operator, plus, arithmetic, relation, connective, Shape, operator, interval, operator_of}
use Rattle.express.specs.Semantics.Operate.{combined}
use Rattle.express.specs.Semantics.Evaluate.{answer_at}
use Rattle.values.specs.Meaning.{ordering_of, relation_of}
use Rattle.std.specs.declared.cmp.Ordering.{Ordering}
use Rattle.values.specs.declared.order.Relation as code
use Rattle.operations.specs.Meaning.{sized}
use Rattle.operations.specs.declared.Answer as operations
use Rattle.operations.specs.declared.Answer.TheVariants as variants
use Rattle.node_answers.specs.Answers.{answers_in, Gives}
use Rattle.string_bytes.specs.Spelling.{Spells, nodes_bytes}

-- a relation, or an interval
pub data Comparison : Shape → Type 0 where
  a_relation : {o : Relation} → Comparison (operator (relation o))
  an_interval : {o p : Relation} → Comparison (interval o p)

module _ (bytes starts lengths terminals kinds tokens sizes bindings file_kinds row_of : List ℕ) (at : ℕ) (aks : List ℕ) (azs : List ℤ) (als room : List ℕ) where
  -- the bytes of the leaves of node a
  abbrev pub bytes_of_node : ℕ → List ℕ
  bytes_of_node a = nodes_bytes bytes starts lengths terminals kinds tokens bindings file_kinds row_of at aks azs als room (a + 1 - get_or sizes a 0) (a + 1)

  pub record SpellsNode (a : ℕ) (out out' : List ℕ) (r : ℕ) : Type 0 where
    pub inside : r ≤ length out
    pub is : a < length kinds → Spells (bytes_of_node a) out out' r

  -- the order of the strings of nodes a and b
  pub record OrdersNodes (a b : ℕ) (r : Ordering) : Type 0 where
    pub is :
        a < length kinds → b < length kinds → length (bytes_of_node a) ≤ most_bytes → length (bytes_of_node b) ≤ most_bytes →
        ordering_of r ≡ compare_bytes (bytes_of_node a) (bytes_of_node b)

  -- x is the answer of node a: its row of values tells it, of a string the length, and the bytes of its leaves are the string
  pub record Operand (vks : List ℕ) (vzs : List ℤ) (vls : List ℕ) (a : ℕ) (x : Answer) : Type 0 where
    pub known : a < length kinds
    pub told : answer_at (answers_in vks vzs vls) a ≡ sized x
    pub spelled : (s : List ℕ) → x ≡ string s → bytes_of_node a ≡ s
    pub short : length (bytes_of x) ≤ most_bytes

  -- a relation of nodes a and b
  pub record Relates (o : code.Relation) (vks : List ℕ) (vzs : List ℤ) (vls : List ℕ) (a b : ℕ) (r : operations.Answer) : Type 0 where
    pub is : (x y : Answer) → Operand vks vzs vls a x → Operand vks vzs vls b y → Gives r (combined (relation (relation_of o)) x y)

-- whether an answer of the code is a string
abbrev pub is_text : operations.Answer → Bool
is_text variants.Indeterminate = false
is_text (variants.Integer z) = false
is_text (variants.Logical l) = false
is_text (variants.Binary b) = false
is_text (variants.Item m) = false
is_text (variants.Text n) = true
is_text (variants.Ended e) = false

-- G15: whether a terminal is that of a relation
abbrev pub relates : Option Operator → Bool
relates none = false
relates (some plus) = false
relates (some (arithmetic o)) = false
relates (some (relation o)) = true
relates (some (connective o)) = false

abbrev pub is_relation : ℕ → Bool
is_relation w = relates (operator_of w)

-- a node that may compare strings: a relation whose right operand is a string, an interval whose item is one
pub record Compares (k : ℕ) (terminals tokens sizes vks : List ℕ) (n : ℕ) (r : Bool) : Type 0 where
  pub is :
      (e : Table) → e.sizes ≡ sizes →
      r ≡
      ((eqb k node.two_operand && (eqb (get_or vks (last n) 0) 5 && is_relation (get_or terminals (get_or tokens n 0) 0))) ||
      (eqb k node.interval && eqb (get_or vks (middle e n) 0) 5))

-- The evaluation of one expression against a file (K12 to K26).
use Rattle.std.specs.Prelude.{◌≡◌, List, ℕ, ◌+◌, ◌-◌, ◌≤◌, ◌<◌, ℤ, length, get_or}
use Rattle.express.specs.Syntax.NodeKind as node
use Rattle.express.specs.Syntax.Tree.{Table, count, kind, size, first, last, left, low, middle}
use Rattle.express.specs.Tokens.Lexis.{most_bytes}
use Rattle.express.specs.Semantics.Answer.{Answer, indeterminate, item, string}
use Rattle.express.specs.Semantics.AnswerRow.{bytes_of}
use Rattle.express.specs.Semantics.Shape.{name, name_shape_in, shape_in}
use Rattle.express.specs.Semantics.Evaluate.{answer_in, answer_at}
use Rattle.operations.specs.Meaning.{sized}
use Rattle.operations.specs.declared.Answer as operations
use Rattle.node_answers.specs.Answers.{answers_in, Gives, Keeps}
use Rattle.node_answers.specs.NodeAnswer.{Against}
use Rattle.string_laws.specs.Leaves.{leaves}
use Rattle.string_bytes.specs.Reading.{Readable}
use Rattle.string_relations.specs.Comparing.{Comparison}

-- K13: THE ANSWER OF A NAMED CONSTANT, by the constant's node: its row, of columns that start with row `at`, tells it, of a string the length
abbrev pub known_in : List ℕ → ℕ → List ℕ → List ℤ → List ℕ → ℕ → Answer
known_in row_of at kinds numbers lengths c = answer_at (answers_in kinds numbers lengths) (get_or row_of c 0 - at)

-- K13: an item by its node d; no other declaration but a constant has an answer
pub record Item (k d : ℕ) (r : operations.Answer) : Type 0 where
  pub is_item : k ≡ node.enumeration_item → Gives r (item d)
  pub is_none : (k ≡ node.enumeration_item → ⊥) → Gives r indeterminate

-- K13: the answer of a name, by what it is bound to, is kept
pub record Named (binding : ℕ) (file_kinds row_of : List ℕ) (at : ℕ) (kinds : List ℕ) (numbers : List ℤ) (lengths value_kinds : List ℕ) (value_numbers : List ℤ)
    (value_lengths value_kinds' : List ℕ) (value_numbers' : List ℤ) (value_lengths' : List ℕ) (n : ℕ) : Type 0 where
  pub is :
      (t e : Table) (c : List ℕ) (f : ℕ → Answer) → t.kinds ≡ file_kinds → get_or c n 0 ≡ binding →
      Keeps (answer_in e f (known_in row_of at kinds numbers lengths) n (name_shape_in t e c n)) n value_kinds value_numbers value_lengths value_kinds' value_numbers' value_lengths'

-- G30: m is an operand of node n
pub data OperandOf (e : Table) (n : ℕ) : ℕ → Type 0 where
  of_sign : kind e n ≡ node.unary → OperandOf e n (last n)
  left_of : kind e n ≡ node.two_operand → OperandOf e n (left e n)
  right_of : kind e n ≡ node.two_operand → OperandOf e n (last n)
  low_of : kind e n ≡ node.interval → OperandOf e n (low e n)
  item_of : kind e n ≡ node.interval → OperandOf e n (middle e n)
  high_of : kind e n ≡ node.interval → OperandOf e n (last n)
  value_of : kind e n ≡ node.constant → OperandOf e n (last n)

-- THE VALUES OF NODES from lo up to hi, where g gives the answers of the file's constants: each is what the evaluation makes of those of its operands,
-- which lie there too, and a string is the bytes of its leaves. An evaluation has such values (`value_step`, `string_leaves` of string_laws).
pub record Valued (t e : Table) (bindings : List ℕ) (g : ℕ → Answer) (lo hi : ℕ) (values : ℕ → Answer) : Type 0 where
  pub known : hi ≤ count e
  pub step : (n : ℕ) → lo ≤ n → n < hi → values n ≡ answer_in e values g n (shape_in t e bindings n)
  pub operands : (n : ℕ) → lo ≤ n → n < hi → (m : ℕ) → OperandOf e n m → (lo ≤ m) × (m < n)
  pub inside : (n : ℕ) → lo ≤ n → n < hi → (lo ≤ first e n) × (size e n ≤ n + 1)
  pub strings : (n : ℕ) → lo ≤ n → n < hi → (s : List ℕ) → values n ≡ string s → leaves t e bindings g (first e n) (size e n) ≡ s
  pub short : (n : ℕ) → lo ≤ n → n < hi → length (bytes_of (values n)) ≤ most_bytes

-- K13: the rows of the constants that nodes from lo up to hi name tell their answers
pub record Knows (t e : Table) (bindings : List ℕ) (g : ℕ → Answer) (row_of : List ℕ) (at : ℕ) (aks : List ℕ) (azs : List ℤ) (als : List ℕ) (lo hi : ℕ) : Type 0 where
  pub is : (m : ℕ) → lo ≤ m → m < hi → (c : ℕ) → shape_in t e bindings m ≡ name c → known_in row_of at aks azs als c ≡ sized (g c)

-- and where strings are compared, their bytes lie in the room
pub record Comparable (t e : Table) (bindings : List ℕ) (g : ℕ → Answer) (row_of : List ℕ) (at : ℕ) (aks : List ℕ) (azs : List ℤ) (als room : List ℕ) (lo hi : ℕ) : Type 0 where
  pub is : (m : ℕ) → lo ≤ m → m < hi → Comparison (shape_in t e bindings m) → Readable t e bindings g row_of at aks azs als room lo hi

-- the columns of values tell those of the nodes from lo up to n, of a string the length
pub record Told (vks : List ℕ) (vzs : List ℤ) (vls : List ℕ) (lo n : ℕ) (values : ℕ → Answer) : Type 0 where
  pub is : (m : ℕ) → lo ≤ m → m < n → answer_at (answers_in vks vzs vls) m ≡ sized (values m)

module _ (bytes starts lengths terminals kinds tokens sizes bindings : List ℕ) where
  -- THE VALUE OF A NODE, by those of its operands and by the answers of the constants, is kept for its parent: of a string the length
  pub record EvaluatesNode (file_kinds declared row_of : List ℕ) (at : ℕ) (aks : List ℕ) (azs : List ℤ) (als room vks : List ℕ) (vzs : List ℤ) (vls vks' : List ℕ) (vzs' : List ℤ)
      (vls' : List ℕ) (n : ℕ) : Type 0 where
    pub is :
        (t e : Table) (g values : ℕ → Answer) (lo hi : ℕ) → Against t e bytes starts lengths terminals kinds tokens sizes bindings file_kinds declared →
        Valued t e bindings g lo hi values → Knows t e bindings g row_of at aks azs als lo hi → Comparable t e bindings g row_of at aks azs als room lo hi →
        lo ≤ n → n < hi → Told vks vzs vls lo n values → Keeps (sized (values n)) n vks vzs vls vks' vzs' vls'

  -- THE EVALUATION OF AN EXPRESSION, its nodes from lo up to hi: the columns of values tell the value of each
  pub record EvaluatesNodes (lo hi : ℕ) (file_kinds declared row_of : List ℕ) (at : ℕ) (aks : List ℕ) (azs : List ℤ) (als room vks : List ℕ) (vzs : List ℤ) (vls vks' : List ℕ)
      (vzs' : List ℤ) (vls' : List ℕ) : Type 0 where
    pub kinds_kept : length vks' ≡ length vks
    pub numbers_kept : length vzs' ≡ length vzs
    pub lengths_kept : length vls' ≡ length vls
    pub is :
        (t e : Table) (g values : ℕ → Answer) → Against t e bytes starts lengths terminals kinds tokens sizes bindings file_kinds declared →
        Valued t e bindings g lo hi values → Knows t e bindings g row_of at aks azs als lo hi → Comparable t e bindings g row_of at aks azs als room lo hi →
        hi ≤ length vks → hi ≤ length vzs → hi ≤ length vls → Told vks' vzs' vls' lo hi values

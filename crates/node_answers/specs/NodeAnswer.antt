-- The answer of one node of an expression, from those of its operands (K13 to K26).
use Rattle.std.specs.Prelude.{◌≡◌, false, cond, ◌&&◌, ◌||◌, List, ◌⊎◌, ℕ, ◌^◌, ◌≤◌, ◌<◌, eqb, ℤ, pos, length, get_or, take, drop}
use Rattle.express.specs.Tokens.Lexis.{integer_value, binary_bits, binary_value, string_value, most_bytes}
use Rattle.express.specs.Tokens.Terminal.{the}
use Rattle.express.specs.Tokens.Terminal as word
use Rattle.express.specs.Syntax.NodeKind as node
use Rattle.express.specs.Syntax.Tree.{Table, kind, terminal, last, upper, lower, middle, low}
use Rattle.express.specs.Semantics.Answer.{Answer, indeterminate, integer, logical, binary, string}
use Rattle.express.specs.Semantics.Bits.{number}
use Rattle.express.specs.Semantics.DeclaredColumn.{DeclaredColumn, declared_number}
use Rattle.express.specs.Semantics.Declared.{Declared, declared_type}
use Rattle.express.specs.Semantics.Shape.{text, logical_of, operator_of, bound_of, shape_in}
use Rattle.express.specs.Semantics.Operate.{between}
use Rattle.express.specs.Semantics.Evaluate.{held, answer_in, answer_at}
use Rattle.operations.specs.Meaning.{of_size, sized}
use Rattle.operations.specs.declared.Answer as operations
use Rattle.node_answers.specs.Operators.{combined_by}
use Rattle.node_answers.specs.Answers.{answers_in, Gives}

-- the bytes of a token that starts at p and has n bytes
abbrev pub part : List ℕ → ℕ → ℕ → List ℕ
part s p n = take n (drop p s)

-- T10, T19: an integer literal below 2 to the 63
pub record IntegerRead (s : List ℕ) (r : operations.Answer) : Type 0 where
  pub is : integer_value s < 2 ^ 63 → Gives r (integer (pos (integer_value s)))

-- T14, T19: a binary literal of up to 63 bits
pub record BinaryRead (s : List ℕ) (r : operations.Answer) : Type 0 where
  pub is : length (binary_bits s) ≤ 63 → binary_value s ≡ number (binary_bits s) → Gives r (binary (binary_bits s))

-- T13, T19: the length of a string literal of up to 255 bytes
pub record StringRead (s : List ℕ) (r : operations.Answer) : Type 0 where
  pub is : length (string_value s) ≤ most_bytes → Gives r (of_size (length (string_value s)))

-- what holds of the bytes of a literal of kind k whose terminal is w
pub record LiteralBytes (k w : ℕ) (s : List ℕ) : Type 0 where
  pub small : k ≡ node.integer_literal → integer_value s < 2 ^ 63
  pub few_bits : k ≡ node.binary_literal → length (binary_bits s) ≤ 63
  pub read : k ≡ node.binary_literal → binary_value s ≡ number (binary_bits s)
  pub few_bytes : k ≡ node.other_literal → w ≡ the word.string → length (string_value s) ≤ most_bytes

-- K13: the answer of a leaf of kind k, by its terminal w and its bytes s; that of `?`, and of what is not evaluated, is `?`
abbrev pub leaf_answer : ℕ → ℕ → List ℕ → Answer
leaf_answer k w s =
    cond (eqb k node.integer_literal) (integer (pos (integer_value s)))
    (cond (eqb k node.binary_literal) (binary (binary_bits s))
    (cond (eqb k node.logical_literal) (logical (logical_of w))
    (cond (eqb k node.other_literal && eqb w (the word.string)) (string (string_value s)) indeterminate)))

pub record Leaf (k w : ℕ) (s : List ℕ) (r : operations.Answer) : Type 0 where
  pub is : LiteralBytes k w s → Gives r (sized (leaf_answer k w s))

-- K14 to K24: two operands
pub record Combines (w : ℕ) (x y r : operations.Answer) : Type 0 where
  pub is : (a b : Answer) → Gives x a → Gives y b → Gives r (combined_by (operator_of w) a b)

-- K25: an interval
pub record Intervals (terminals tokens sizes kinds : List ℕ) (numbers : List ℤ) (lengths : List ℕ) (n : ℕ) (r : operations.Answer) : Type 0 where
  pub is :
      (e : Table) → e.terminals ≡ terminals → e.tokens ≡ tokens → e.sizes ≡ sizes →
      let f = answer_at (answers_in kinds numbers lengths) in
      Gives r (between (bound_of (terminal e (lower e n))) (bound_of (terminal e (upper e n))) (f (low e n)) (f (middle e n)) (f (last n)))

-- the kinds of operations
pub record Operation (k : ℕ) : Type 0 where
  pub one : (k ≡ node.unary) ⊎ ((k ≡ node.two_operand) ⊎ (k ≡ node.interval))

pub record Operates (k : ℕ) (terminals tokens sizes kinds : List ℕ) (numbers : List ℤ) (lengths : List ℕ) (n : ℕ) (r : operations.Answer) : Type 0 where
  pub is :
      (t e : Table) (c : List ℕ) (g : ℕ → Answer) → e.terminals ≡ terminals → e.tokens ≡ tokens → e.sizes ≡ sizes → kind e n ≡ k → Operation k →
      Gives r (answer_in e (answer_at (answers_in kinds numbers lengths)) g n (shape_in t e c n))

-- the other kinds that are no names
pub record Plain (k : ℕ) : Type 0 where
  pub no_name : k ≡ node.name → ⊥
  pub no_item : k ≡ node.qualified_item → ⊥
  pub no_unary : k ≡ node.unary → ⊥
  pub no_two : k ≡ node.two_operand → ⊥
  pub no_interval : k ≡ node.interval → ⊥

-- K26: what a constant n holds, by the number of its declared type, from the answer that is kept for its expression
pub record HeldIn (declared : ℕ) (kinds : List ℕ) (numbers : List ℤ) (lengths : List ℕ) (n : ℕ) (r : operations.Answer) : Type 0 where
  pub is : (d : Declared) → declared ≡ declared_number d → Gives r (held d (answer_at (answers_in kinds numbers lengths) (last n)))

-- K13, K26: a literal, or a constant from the answer of its expression
pub record Others (k : ℕ) (bytes starts lengths terminals : List ℕ) (token declared : ℕ) (kinds : List ℕ) (numbers : List ℤ) (sizes : List ℕ) (n : ℕ) (r : operations.Answer) : Type 0 where
  pub is :
      (t e : Table) (c : List ℕ) (g : ℕ → Answer) → Plain k → kind e n ≡ k → e.bytes ≡ bytes → e.starts ≡ starts → e.lengths ≡ lengths →
      e.terminals ≡ terminals → get_or e.tokens n 0 ≡ token → (k ≡ node.constant → declared ≡ declared_number (declared_type e c n)) →
      LiteralBytes k (terminal e n) (text e n) → Gives r (sized (answer_in e (answer_at (answers_in kinds numbers sizes)) g n (shape_in t e c n)))

-- What holds of the literals of every text that is read (`spelled` of proofs/Literals).
pub record Spelled (e : Table) : Type 0 where
  pub each : (n : ℕ) → LiteralBytes (kind e n) (terminal e n) (text e n)

-- THE COLUMNS of an expression's table e and of the file's table t; for the constants of the file they are the same.
pub record Against (t e : Table) (bytes starts lengths terminals kinds tokens sizes bindings file_kinds declared : List ℕ) : Type 0 where
  pub bytes_are : e.bytes ≡ bytes
  pub starts_are : e.starts ≡ starts
  pub lengths_are : e.lengths ≡ lengths
  pub terminals_are : e.terminals ≡ terminals
  pub kinds_are : e.kinds ≡ kinds
  pub tokens_are : e.tokens ≡ tokens
  pub sizes_are : e.sizes ≡ sizes
  pub file_kinds_are : t.kinds ≡ file_kinds
  pub declares : DeclaredColumn e bindings declared
  pub spelled : Spelled e

-- THE ANSWER OF A NODE of kind k that is no name, from the answers that the columns of values hold; a string, there and here, by its length
pub record Answered (bytes starts lengths terminals tokens sizes declared value_kinds : List ℕ) (value_numbers : List ℤ) (value_lengths : List ℕ) (k n : ℕ) (r : operations.Answer)
    : Type 0 where
  pub is :
      (t e : Table) (kinds bindings file_kinds : List ℕ) (g : ℕ → Answer) → Against t e bytes starts lengths terminals kinds tokens sizes bindings file_kinds declared →
      kind e n ≡ k → (eqb k node.name || eqb k node.qualified_item) ≡ false →
      Gives r (sized (answer_in e (answer_at (answers_in value_kinds value_numbers value_lengths)) g n (shape_in t e bindings n)))

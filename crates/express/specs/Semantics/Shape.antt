-- What a node of an expression or a constant is: its row (G31) decoded, once, for the rules, the typing and the evaluation.
use Rattle.std.specs.Prelude.{◌≡◌, Bool, cond, ◌&&◌, ◌||◌, List, ℕ, ◌^◌, ◌≤◌, ◌<◌, eqb, get_or, take, drop, length}
use Rattle.std.proofs.Math.Option.{Option, none, some}
use Rattle.express.specs.Semantics.Answer.{Logical, FALSE, UNKNOWN, TRUE}
use Rattle.express.specs.Semantics.Relation.{Relation, less_than, greater_than, at_most, at_least, unequal, equal, instance_unequal, instance_equal}
use Rattle.express.specs.Tokens.Lexis.{integer_value, binary_bits, string_value, most_bytes}
use Rattle.express.specs.Tokens.Terminal.{the}
use Rattle.express.specs.Tokens.Terminal as word
use Rattle.express.specs.Syntax.NodeKind as node
use Rattle.express.specs.Syntax.Tree.{Table, kind, token, terminal, is, lower, upper}
use Rattle.express.specs.Semantics.Declared.{Declared, declaration, bound, denoted, declared_type}

-- K7: the operators that take integers alone
pub data Arithmetic : Type 0 where
  minus times divide modulo power : Arithmetic

-- K7: the operators that take logicals
pub data Connective : Type 0 where
  and or xor : Connective

-- K7: the two-operand operators, in classes; `+`, which adds integers and joins binaries and strings, is one by itself
pub data Operator : Type 0 where
  plus : Operator
  arithmetic : Arithmetic → Operator
  relation : Relation → Operator
  connective : Connective → Operator

-- G19: `+`, `-` and NOT before an atom
pub data Sign : Type 0 where
  positive negative not : Sign

pub data Shape : Type 0 where
  integer_literal : ℕ → Shape
  logical_literal : Logical → Shape
  binary_literal : List Bool → Shape
  string_literal : List ℕ → Shape
  question : Shape
  -- an item, and the name of a constant: by the node of its declaration
  item : ℕ → Shape
  name : ℕ → Shape
  unary : Sign → Shape
  operator : Operator → Shape
  interval : Relation → Relation → Shape
  interval_operator : Shape
  -- a simple type or a type's name
  type : Declared → Shape
  constant : Declared → Shape
  -- K10: `/`, and leaves that are not evaluated
  unevaluated : Shape

-- the bytes of a node's naming token
abbrev pub text : Table → ℕ → List ℕ
text t n = take (get_or t.lengths (token t n) 0) (drop (get_or t.starts (token t n) 0) t.bytes)

abbrev pub logical_of : ℕ → Logical
logical_of w = cond (eqb w (the word.TRUE)) TRUE (cond (eqb w (the word.FALSE)) FALSE UNKNOWN)

abbrev pub sign_of : ℕ → Sign
sign_of w = cond (eqb w (the word.NOT)) not (cond (eqb w (the word.minus)) negative positive)

-- an interval's operators are `<` and `<=` (G21)
abbrev pub bound_of : ℕ → Relation
bound_of w = cond (eqb w (the word.less)) less_than at_most

-- the two-operand operators by their tokens; `/` is not evaluated (K10)
unfoldable pub operator_of : ℕ → Option Operator
operator_of w =
    cond (eqb w (the word.plus)) (some plus)
    (cond (eqb w (the word.minus)) (some (arithmetic minus))
    (cond (eqb w (the word.times)) (some (arithmetic times))
    (cond (eqb w (the word.DIV)) (some (arithmetic divide))
    (cond (eqb w (the word.MOD)) (some (arithmetic modulo))
    (cond (eqb w (the word.power)) (some (arithmetic power))
    (cond (eqb w (the word.less)) (some (relation less_than))
    (cond (eqb w (the word.greater)) (some (relation greater_than))
    (cond (eqb w (the word.less_equal)) (some (relation at_most))
    (cond (eqb w (the word.greater_equal)) (some (relation at_least))
    (cond (eqb w (the word.unequal)) (some (relation unequal))
    (cond (eqb w (the word.equal)) (some (relation equal))
    (cond (eqb w (the word.instance_unequal)) (some (relation instance_unequal))
    (cond (eqb w (the word.instance_equal)) (some (relation instance_equal))
    (cond (eqb w (the word.AND)) (some (connective and))
    (cond (eqb w (the word.OR)) (some (connective or))
    (cond (eqb w (the word.XOR)) (some (connective xor)) none))))))))))))))))

abbrev pub evaluated : Option Operator → Shape
evaluated none = unevaluated
evaluated (some o) = operator o

-- A node n of a table e, whose names are bound by b to nodes of the file's table t: e is that table itself for the expressions of the file, and
-- another for a text that is read by itself.
-- a name, or `type.item`, by what it is bound to (N18): an item, a constant, or else a type
abbrev pub name_shape_in : Table → Table → List ℕ → ℕ → Shape
name_shape_in t e b n =
    cond (bound t b node.enumeration_item n) (item (declaration b n))
    (cond (bound t b node.constant n) (name (declaration b n)) (type (denoted e b n)))

-- a literal that is not of the kinds before (G32) and whose token is a string
abbrev pub is_string : Table → ℕ → Bool
is_string e n = is e node.other_literal n && eqb (terminal e n) (the word.string)

unfoldable pub shape_in : Table → Table → List ℕ → ℕ → Shape
shape_in t e b n =
    cond (is e node.integer_literal n) (integer_literal (integer_value (text e n)))
    (cond (is e node.binary_literal n) (binary_literal (binary_bits (text e n)))
    (cond (is e node.logical_literal n) (logical_literal (logical_of (terminal e n)))
    (cond (is_string e n) (string_literal (string_value (text e n)))
    (cond (is e node.question n) question
    (cond (is e node.name n || is e node.qualified_item n) (name_shape_in t e b n)
    (cond (is e node.unary n) (unary (sign_of (terminal e n)))
    (cond (is e node.two_operand n) (evaluated (operator_of (terminal e n)))
    (cond (is e node.interval n) (interval (bound_of (terminal e (lower e n))) (bound_of (terminal e (upper e n))))
    (cond (is e node.interval_operator n) interval_operator
    (cond (is e node.simple_type n) (type (denoted e b n))
    (cond (is e node.constant n) (constant (declared_type e b n)) unevaluated)))))))))))

-- a node of the file
abbrev pub shape : Table → List ℕ → ℕ → Shape
shape t b n = shape_in t t b n

-- what holds of the literals of every text that is read: integers stay below 2 ^ 63, binaries have 1 to 63 bits, strings at most 255 bytes
pub record Literals (t : Table) : Type 0 where
  pub small : (n : ℕ) → kind t n ≡ node.integer_literal → integer_value (text t n) < 2 ^ 63
  pub some_bits : (n : ℕ) → kind t n ≡ node.binary_literal → 1 ≤ length (binary_bits (text t n))
  pub few_bits : (n : ℕ) → kind t n ≡ node.binary_literal → length (binary_bits (text t n)) ≤ 63
  pub few_bytes : (n : ℕ) → kind t n ≡ node.other_literal → terminal t n ≡ the word.string → length (string_value (text t n)) ≤ most_bytes

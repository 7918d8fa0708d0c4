-- Typing (K3 to K11): a kind for each node of a constant, in node order, or the first fault, 14 or 15.
use Rattle.std.specs.Prelude.{◌≡◌, Bool, true, cond, ◌&&◌, List, [], ◌∷◌, ℕ, ◌+◌, ◌-◌, ◌<◌, eqb, get_or, set, replicate}
use Rattle.express.specs.Syntax.NodeKind as node
use Rattle.relations.specs.Select.{keep}
use Rattle.express.specs.Syntax.Tree.{Table, count, last, nodes, is, owner, left, middle, low, within, in_constant}
use Rattle.express.specs.Semantics.Declared.{Declared, INTEGER, BOOLEAN, LOGICAL, BINARY, STRING, enumeration, other, declared_type}
use Rattle.express.specs.Semantics.Shape.{Operator, plus, arithmetic, relation, connective, Sign, positive, negative, not, Shape, integer_literal, logical_literal}
use Rattle.express.specs.Semantics.Shape.{binary_literal, string_literal, question, item, name, unary, operator, interval, interval_operator, type, constant, unevaluated, shape_in, shape}
use Rattle.express.specs.Semantics.Operate.{Kind, integers, logicals, binaries, strings, items, undetermined, untyped, takes, takes_one, comparable}

-- kinds by number (K4), to compare them
abbrev pub kind_number : Kind → ℕ
kind_number untyped = 0
kind_number undetermined = 1
kind_number integers = 2
kind_number logicals = 3
kind_number binaries = 4
kind_number strings = 5
kind_number (items y) = y + 6

-- and from the number to the kind
abbrev pub of_number : ℕ → Kind
of_number n =
    cond (eqb n 0) untyped
    (cond (eqb n 1) undetermined
    (cond (eqb n 2) integers (cond (eqb n 3) logicals (cond (eqb n 4) binaries (cond (eqb n 5) strings (items (n - 6)))))))

abbrev pub same : Kind → Kind → Bool
same j k = eqb (kind_number j) (kind_number k)

-- the kind of two operands together (K6): they must be the same, or one undetermined
abbrev pub common : Kind → Kind → Kind
common j k = cond (same j undetermined) k (cond (same k undetermined) j (cond (same j k) j untyped))

-- the kind of a declared type (K4)
abbrev pub kind_of_type : Declared → Kind
kind_of_type INTEGER = integers
kind_of_type BOOLEAN = logicals
kind_of_type LOGICAL = logicals
kind_of_type BINARY = binaries
kind_of_type STRING = strings
kind_of_type (enumeration y) = items y
kind_of_type other = untyped

-- the kind that an operator gives (K7): `+` that of its operands, so two `?` stay undetermined
abbrev pub result : Operator → Kind → Kind
result plus k = k
result (arithmetic o) k = integers
result (relation o) k = logicals
result (connective o) k = logicals

-- K7: the kind that a sign or NOT gives
abbrev pub result_of_one : Sign → Kind
result_of_one positive = integers
result_of_one negative = integers
result_of_one not = logicals

-- what is found at a node: its kind, or a fault, 14 or 15
pub data Finding : Type 0 where
  of_kind : Kind → Finding
  fault : ℕ → Finding

-- K8, K9: 15 where an operand or the declared type does not fit
abbrev pub if_fits : Bool → Kind → Finding
if_fits p k = cond p (of_kind k) (fault 15)

-- K3: 14 at a declared type that is not evaluated, and at the name of a constant that is declared with one
abbrev pub if_evaluated : Declared → Kind → Finding
if_evaluated d k = cond (comparable (kind_of_type d)) (of_kind k) (fault 14)

-- K3 to K10, at a node n of a given shape in a table e, from the kinds of its children; what names are bound to are nodes of the file's table t,
-- whose names are bound by b
abbrev pub finding_in : Table → List ℕ → Table → (ℕ → Kind) → ℕ → Shape → Finding
finding_in t b e k n (integer_literal v) = of_kind integers
finding_in t b e k n (logical_literal l) = of_kind logicals
finding_in t b e k n (binary_literal s) = of_kind binaries
finding_in t b e k n (string_literal s) = of_kind strings
finding_in t b e k n question = of_kind undetermined
finding_in t b e k n (item m) = of_kind (items (owner t m))
finding_in t b e k n (name c) = if_evaluated (declared_type t b c) (kind_of_type (declared_type t b c))
finding_in t b e k n (unary o) = if_fits (takes_one o (k (last n))) (result_of_one o)
finding_in t b e k n (operator o) = let j = common (k (left e n)) (k (last n)) in if_fits (takes o j) (result o j)
finding_in t b e k n (interval o p) =
    if_fits (takes (relation o) (common (k (low e n)) (k (middle e n))) && takes (relation p) (common (k (middle e n)) (k (last n)))) logicals
finding_in t b e k n interval_operator = of_kind untyped
finding_in t b e k n (type d) = if_evaluated d untyped
finding_in t b e k n (constant d) = if_fits (comparable (common (kind_of_type d) (k (last n)))) (kind_of_type d)
finding_in t b e k n unevaluated = fault 14

-- at a node of the file
abbrev pub finding : Table → List ℕ → (ℕ → Kind) → ℕ → Shape → Finding
finding t b k n s = finding_in t b t k n s

abbrev pub kind_at : List Kind → ℕ → Kind
kind_at ks n = get_or ks n untyped

-- What the typing of some nodes comes to: a kind for each, or the first fault and its node
pub data Typing : Type 0 where
  typed : List Kind → Typing
  ill_typed : ℕ → ℕ → Typing

abbrev pub if_found : Finding → ℕ → (Kind → Typing) → Typing
if_found (of_kind k) n more = more k
if_found (fault f) n more = ill_typed f n

-- the nodes ns of a table e, whose names are bound by c to nodes of the file; the kind of each is kept for its parent
unfoldable pub type_nodes_in : Table → List ℕ → Table → List ℕ → List ℕ → List Kind → Typing
type_nodes_in t b e c [] ks = typed ks
type_nodes_in t b e c (n ∷ ns) ks = if_found (finding_in t b e (kind_at ks) n (shape_in t e c n)) n (λ k. type_nodes_in t b e c ns (set ks n k))

abbrev pub type_nodes : Table → List ℕ → List ℕ → List Kind → Typing
type_nodes t b ns ks = type_nodes_in t b t b ns ks

-- ONE EXPRESSION, or one constant, with the last node n, against the file's tables
abbrev pub type_expression_in : Table → List ℕ → Table → List ℕ → ℕ → List Kind → Typing
type_expression_in t b e c n ks = type_nodes_in t b e c (within e n) ks

abbrev pub if_typed : Typing → (List Kind → Typing) → Typing
if_typed (typed ks) more = more ks
if_typed (ill_typed f n) more = ill_typed f n

-- the constants ds of the file, one after the other
unfoldable pub type_constants : Table → List ℕ → List ℕ → List Kind → Typing
type_constants t b [] ks = typed ks
type_constants t b (d ∷ ds) ks = if_typed (type_expression_in t b t b d ks) (λ js. type_constants t b ds js)

-- K36: the constants, in the order of the text
abbrev pub constants : Table → List ℕ
constants t = keep (is t node.constant) (nodes t)

-- K1, K11: only constants are typed, in the order of the text, and the first fault in the order of the nodes is given
unfoldable pub typing : Table → List ℕ → Typing
typing t b = type_constants t b (constants t) (replicate (count t) untyped)

-- ---- what the typing says, without the order in which it goes (R17)

-- K1: node n is a constant or lies in one
abbrev pub Constant : Table → ℕ → Type 0
Constant t n = in_constant t n ≡ true

abbrev pub Fits : Table → List ℕ → (ℕ → Kind) → ℕ → Type 0
Fits t b k n = finding t b k n (shape t b n) ≡ of_kind (k n)

-- R17, accepted: kinds that fit at every node of a constant
pub record WellTyped (t : Table) (b : List ℕ) : Type 0 where
  pub kinds : ℕ → Kind
  pub fits : (n : ℕ) → Constant t n → Fits t b kinds n

-- K11, refused: f is found at node n, and kinds fit at every node of a constant before it
pub record FirstFault (t : Table) (b : List ℕ) (f n : ℕ) : Type 0 where
  pub kinds : ℕ → Kind
  pub there : Constant t n
  pub is : finding t b kinds n (shape t b n) ≡ fault f
  pub fits : (m : ℕ) → m < n → Constant t m → Fits t b kinds m

-- Evaluation as a function (K12 to K26): one expression, from the answers of the constants that are known; and the constants in a given order.
use Rattle.std.specs.Prelude.{List, [], ◌∷◌, ℕ, suc, get_or, set, replicate, pos}
use Rattle.express.specs.Semantics.Answer.{Logical, FALSE, UNKNOWN, TRUE, Answer, indeterminate, integer, logical, binary, item, string, end, unknown_boolean}
use Rattle.express.specs.Syntax.Tree.{Table, count, last, left, middle, low, within}
use Rattle.express.specs.Semantics.Declared.{Declared, INTEGER, BOOLEAN, LOGICAL, BINARY, STRING, enumeration, other}
use Rattle.express.specs.Semantics.Shape.{Shape, integer_literal, logical_literal, binary_literal, string_literal, question, name, unary}
use Rattle.express.specs.Semantics.Shape.{operator, interval, interval_operator, type, constant, unevaluated, shape_in}
use Rattle.express.specs.Semantics.Shape as shapes
use Rattle.express.specs.Semantics.Operate.{logical_in, given, combined, applied, between}

-- K26: UNKNOWN for a BOOLEAN is an end
abbrev pub boolean_answer : Logical → Answer
boolean_answer FALSE = logical FALSE
boolean_answer UNKNOWN = end unknown_boolean
boolean_answer TRUE = logical TRUE

-- K26: a constant's answer, from its declared type and the answer of its expression
abbrev pub held : Declared → Answer → Answer
held INTEGER a = a
held BOOLEAN a = given (logical_in a) boolean_answer a
held LOGICAL a = a
held BINARY a = a
held STRING a = a
held (enumeration y) a = a
held other a = a

-- K13 to K26: the answer of a node n of a given shape in a table e; f gives those of its children, g those of the constants of the file
abbrev pub answer_in : Table → (ℕ → Answer) → (ℕ → Answer) → ℕ → Shape → Answer
answer_in e f g n (integer_literal v) = integer (pos v)
answer_in e f g n (logical_literal l) = logical l
answer_in e f g n (binary_literal s) = binary s
answer_in e f g n (string_literal s) = string s
answer_in e f g n (shapes.item m) = item m
answer_in e f g n (name c) = g c
answer_in e f g n (unary o) = applied o (f (last n))
answer_in e f g n (operator o) = combined o (f (left e n)) (f (last n))
answer_in e f g n (interval o p) = between o p (f (low e n)) (f (middle e n)) (f (last n))
answer_in e f g n (constant d) = held d (f (last n))
answer_in e f g n question = indeterminate
answer_in e f g n interval_operator = indeterminate
answer_in e f g n (type d) = indeterminate
answer_in e f g n unevaluated = indeterminate

abbrev pub answer_at : List Answer → ℕ → Answer
answer_at xs n = get_or xs n indeterminate

-- the nodes ns of a table e, whose names are bound by c to nodes of the file's table t; g gives the answers of its constants. The answer of each
-- node is kept for its parent.
unfoldable pub run_in : Table → Table → List ℕ → (ℕ → Answer) → List ℕ → List Answer → List Answer
run_in t e c g [] xs = xs
run_in t e c g (n ∷ ns) xs = run_in t e c g ns (set xs n (answer_in e (answer_at xs) g n (shape_in t e c n)))

-- ONE EXPRESSION, or one constant, with the last node n
abbrev pub value_in : Table → Table → List ℕ → (ℕ → Answer) → ℕ → Answer
value_in t e c known n = answer_at (run_in t e c known (within e n) (replicate (suc n) indeterminate)) n

-- of the file itself
abbrev pub value : Table → List ℕ → (ℕ → Answer) → ℕ → Answer
value t b known n = value_in t t b known n

-- the constants ds one after the other: the answer of each is known to those after it
unfoldable pub evaluate : Table → List ℕ → List ℕ → List Answer → List Answer
evaluate t b [] known = known
evaluate t b (d ∷ ds) known = evaluate t b ds (set known d (value t b (answer_at known) d))

-- the answers of the constants, by node, after those of an order
unfoldable pub answers : Table → List ℕ → List ℕ → List Answer
answers t b ds = evaluate t b ds (replicate (count t) indeterminate)

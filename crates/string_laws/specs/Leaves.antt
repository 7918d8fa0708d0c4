-- The leaves of a string: the literals and names of constants below a node, whose bytes, in node order, are those of its string (K13, K21).
use mathlib.Core.List.{List, [], flat_map}
use Rattle.std.specs.Prelude.{ℕ}
use Rattle.relations.specs.Select.{span}
use Rattle.express.specs.Syntax.Tree.{Table}
use Rattle.express.specs.Semantics.Answer.{Answer}
use Rattle.express.specs.Semantics.AnswerRow.{bytes_of}
use Rattle.express.specs.Semantics.Shape.{Shape, integer_literal, logical_literal, binary_literal, string_literal, question, item, name, unary, operator, interval}
use Rattle.express.specs.Semantics.Shape.{interval_operator, type, constant, unevaluated, shape_in}

-- K13: the bytes that a node by itself gives to the string in which it stands: a literal its value, the name of a constant the bytes of its answer, which g
-- gives; an operator none
abbrev pub leaf_bytes : (ℕ → Answer) → Shape → List ℕ
leaf_bytes g (integer_literal v) = []
leaf_bytes g (logical_literal l) = []
leaf_bytes g (binary_literal s) = []
leaf_bytes g (string_literal s) = s
leaf_bytes g question = []
leaf_bytes g (item m) = []
leaf_bytes g (name c) = bytes_of (g c)
leaf_bytes g (unary o) = []
leaf_bytes g (operator o) = []
leaf_bytes g (interval o p) = []
leaf_bytes g interval_operator = []
leaf_bytes g (type d) = []
leaf_bytes g (constant d) = []
leaf_bytes g unevaluated = []

-- those of k nodes of a table e, from lo on; its names are bound by c to nodes of the file's table t
abbrev pub leaves : Table → Table → List ℕ → (ℕ → Answer) → ℕ → ℕ → List ℕ
leaves t e c g lo k = flat_map (λ m. leaf_bytes g (shape_in t e c m)) (span lo k)

-- Operators by their class and place, and operands by their rows; a number past the last is the last.
use Rattle.std.specs.Prelude.{◌≡◌, Bool, cond, ℕ, eqb, ℤ}
use Rattle.express.specs.Semantics.Answer.{Answer}
use Rattle.express.specs.Semantics.AnswerRow.{AnswerRow, row, row_of}
use Rattle.express.specs.Semantics.Declared.{Declared}
use Rattle.express.specs.Semantics.Evaluate.{held}
use Rattle.express.specs.Semantics.Shape.{Arithmetic, minus, times, divide, modulo, power, Connective, and, or, xor}
use Rattle.express.specs.Semantics.Shape.{Operator, plus, arithmetic, relation, connective, Sign, positive, negative, not}
use Rattle.operations.specs.Meaning.{is_boolean}
use Rattle.answer_rows.specs.Stored.{stored, sized_answer}
use Rattle.test_exports.specs.Places.{relation_at}

-- the answer of a row, a string by its length, `?` where the code has none for it
abbrev pub answer_at : ℕ → ℤ → ℕ → Answer
answer_at k z l = stored (sized_answer (row k z l))

abbrev pub arithmetic_at : ℕ → Arithmetic
arithmetic_at n = cond (eqb n 0) minus (cond (eqb n 1) times (cond (eqb n 2) divide (cond (eqb n 3) modulo power)))

abbrev pub connective_at : ℕ → Connective
connective_at n = cond (eqb n 0) and (cond (eqb n 1) or xor)

abbrev pub sign_at : ℕ → Sign
sign_at n = cond (eqb n 0) positive (cond (eqb n 1) negative not)

-- class 0 is `+` alone, 1 arithmetic, 2 the relations, 3 the connectives
abbrev pub operator_at : ℕ → ℕ → Operator
operator_at c n = cond (eqb c 0) plus (cond (eqb c 1) (arithmetic (arithmetic_at n)) (cond (eqb c 2) (relation (relation_at n)) (connective (connective_at n))))

-- K26: r is the row of what a constant holds whose expression comes to x, for every type that is BOOLEAN exactly where b says so
pub record HoldsRow (b : Bool) (x : Answer) (r : AnswerRow) : Type 0 where
  pub is : (d : Declared) → is_boolean d ≡ b → r ≡ row_of (stored (held d x))

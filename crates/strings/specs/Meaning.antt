-- What the types of the code stand for.
use Rattle.std.specs.Prelude.{ℕ, replicate, Result, Ok, Err}
use Rattle.express.specs.Semantics.Answer.{Answer, string, end}
use Rattle.values.specs.Meaning.{end_number}
use Rattle.values.specs.declared.End.{End}

-- a string of which the length alone is told: each of its bytes is 0
abbrev pub of_size : ℕ → Answer
of_size n = string (replicate n 0)

-- the answer that joining gives
abbrev pub joined_answer : Result ℕ End → Answer
joined_answer (Ok n) = of_size n
joined_answer (Err e) = end (end_number e)

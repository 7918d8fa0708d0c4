-- Answers that are kept in the rows of three columns (K35).
use Rattle.std.specs.Prelude.{◌≡◌, true, List, [], ◌∷◌, ℕ, ℤ, set}
use Rattle.express.specs.Semantics.Answer.{Answer}
use Rattle.express.specs.Semantics.AnswerRow.{row, row_of}
use Rattle.operations.specs.Meaning.{answer_of}
use Rattle.answer_rows.specs.Stored.{storable, stored, sized_answer}
use Rattle.operations.specs.declared.Answer as operations

-- the answers that three columns hold, strings by their lengths, as many as the shortest has rows
unfoldable pub answers_in : List ℕ → List ℤ → List ℕ → List Answer
answers_in [] zs ls = []
answers_in (k ∷ ks) [] ls = []
answers_in (k ∷ ks) (z ∷ zs) [] = []
answers_in (k ∷ ks) (z ∷ zs) (l ∷ ls) = stored (sized_answer (row k z l)) ∷ answers_in ks zs ls

-- an answer of the code stands for a, which a row holds
pub record Gives (r : operations.Answer) (a : Answer) : Type 0 where
  pub is : answer_of r ≡ a
  pub whole : storable a ≡ true

-- the row of an answer is stored at i, as far as the columns reach
pub record Stores (a : Answer) (i : ℕ) (kinds : List ℕ) (numbers : List ℤ) (lengths kinds' : List ℕ) (numbers' : List ℤ) (lengths' : List ℕ) : Type 0 where
  pub kinds_are : kinds' ≡ set kinds i (row_of a).kind
  pub numbers_are : numbers' ≡ set numbers i (row_of a).number
  pub lengths_are : lengths' ≡ set lengths i (row_of a).length

-- a stands in row i of the answers that the columns hold, as far as they reach; the others are as they were
pub record Keeps (a : Answer) (i : ℕ) (kinds : List ℕ) (numbers : List ℤ) (lengths kinds' : List ℕ) (numbers' : List ℤ) (lengths' : List ℕ) : Type 0 where
  pub is : answers_in kinds' numbers' lengths' ≡ set (answers_in kinds numbers lengths) i a

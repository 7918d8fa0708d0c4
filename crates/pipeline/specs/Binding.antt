-- From names to answers, with the orders of the declarations. What the code leaves.
use Rattle.std.specs.Prelude.{◌≡◌, List, ℕ, ◌≤◌, ℤ, length, get_or, take, Err}
use Rattle.relations.specs.Select.{span, keep}
use Rattle.express.specs.Syntax.Tree.{Table}
use Rattle.scopes.specs.Standing.{declares}
use Rattle.scopes.specs.Range.{vertex_count}
use Rattle.stages.specs.declared.Refusal.{Refusal}
use Rattle.stages.specs.Line.{Stage}
use Rattle.answer_stages.specs.AnswerStage.{AnswersFile}

-- how many constants, types and entities there are among nodes of these kinds
pub record Declarations (kinds : List ℕ) (n : ℕ) : Type 0 where
  pub is : n ≡ length (keep (λ m. declares (get_or kinds m 0)) (span 0 (length kinds)))

-- `answer_named`, of a file with these nodes, whose declarations stand in order at the fronts of two columns
pub record AnswersNamed (before : Stage) (bytes starts lengths terminals kinds tokens sizes bindings types constants declared row_of aks : List ℕ) (azs : List ℤ) (als vks : List ℕ)
    (vzs : List ℤ) (vls room : List ℕ) (r : Stage) (aks' : List ℕ) (azs' : List ℤ) (als' room' : List ℕ) : Type 0 where
  pub passed_on : (f : Refusal) → before ≡ Err f → r ≡ Err f
  pub is :
      (t : Table) → kinds ≡ t.kinds → vertex_count t ≤ length types → vertex_count t ≤ length constants →
      AnswersFile bytes starts lengths terminals kinds tokens sizes bindings before (take (vertex_count t) types) (take (vertex_count t) constants) declared row_of aks azs als vks vzs vls room r
      aks' azs' als' room'

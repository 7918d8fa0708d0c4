-- The declarations counted, and cut from the columns that hold their orders.
use mathlib.Core.Path.{◌≡◌, sym, ap, ◌∙◌}
use mathlib.Core.List.{List}
use Prim.Native.Nat.{ℕ, min, ◌≤◌}
use native.Mathlib.Omega.{arith}
use lib.IntN.{ℤ}
use lib.ListN.{length, get_or, take}
use Rattle.std.specs.List.{count_by}
use Rattle.relations.specs.Select.{span, keep}
use Rattle.express.specs.Syntax.Tree.{Table}
use Rattle.scopes.specs.Entries.{vertex}
use Rattle.scopes.specs.Range.{vertex_count}
use Rattle.scopes.specs.Standing.{declares}
use Rattle.stages.specs.Line.{Stage}
use Rattle.stages.proofs.Counting.{counted_places}
use Rattle.answer_stages.specs.AnswerStage.{AnswersFile}
use Rattle.pipeline.specs.Binding.{Declarations, AnswersNamed}

-- ---- the declarations, counted

abbrev so_far : List ℕ → ℕ → ℕ
so_far kinds n = length (keep (λ m. declares (get_or kinds m 0)) (span 0 n))

pub declarations_counted : {kinds : List ℕ} {n : ℕ} → n ≡ count_by declares kinds → Declarations kinds n
declarations_counted {kinds} e = record { is = e ∙ counted_places declares kinds }

vertices_are : (t : Table) (kinds : List ℕ) {n : ℕ} → kinds ≡ t.kinds → Declarations kinds n → n ≡ vertex_count t
unfolding vertex
vertices_are t kinds e D = D.is ∙ ap (λ (k : List ℕ). so_far k (length k)) e

-- ---- the orders at the fronts of their columns

module _ (before : Stage) (bytes starts lengths terminals kinds tokens sizes bindings types constants declared row_of aks : List ℕ) (azs : List ℤ) (als vks : List ℕ) (vzs : List ℤ)
    (vls room : List ℕ) (r : Stage) (aks' : List ℕ) (azs' : List ℤ) (als' room' : List ℕ) (d v i : ℕ) where
  pub named_answered : Declarations kinds d → i ≡ min (length types) (length constants) → v ≡ min d i →
      AnswersFile bytes starts lengths terminals kinds tokens sizes bindings before (take v types) (take v constants) declared row_of aks azs als vks vzs vls room r aks' azs' als' room' →
      AnswersNamed before bytes starts lengths terminals kinds tokens sizes bindings types constants declared row_of aks azs als vks vzs vls room r aks' azs' als' room'
  named_answered D im vm A =
      record {
        passed_on = A.passed_on;
        is = λ t e x y.
            let dt : d ≡ vertex_count t = vertices_are t kinds e D in
            let vt : v ≡ vertex_count t = omega (arith, im, vm, dt) in
            rw (sym vt) A;
      }

-- The evaluation of nodes one after the other: the columns tell the values of those that have passed.
use mathlib.Core.Path.{◌≡◌, refl, ap, ◌∙◌}
use mathlib.Core.List.{List}
use Prim.Native.Nat.{ℕ, ◌+◌, ◌≤◌, ◌<◌}
use native.Mathlib.Decide.{ℕ_discrete}
use native.Mathlib.Omega.{arith}
use lib.IntN.{ℤ}
use lib.ListN.{length, set}
use lib.Seq.{get_or-set_same, get_or-set_other}
use Rattle.express.specs.Syntax.Tree.{Table}
use Rattle.express.specs.Semantics.Answer.{Answer, indeterminate}
use Rattle.express.specs.Semantics.Evaluate.{answer_at}
use Rattle.operations.specs.Meaning.{sized}
use Rattle.node_answers.specs.Answers.{answers_in, Keeps}
use Rattle.node_answers.specs.NodeAnswer.{Against}
use Rattle.node_answers.proofs.Rows.{rows_within}
use Rattle.evaluate.specs.Evaluation.{Valued, Knows, Comparable, Told, EvaluatesNode, EvaluatesNodes}

told_none : {ks : List ℕ} {zs : List ℤ} {ls : List ℕ} {lo : ℕ} {values : ℕ → Answer} → Told ks zs ls lo lo values
told_none = record { is = λ m a b. absurd (omega arith) }

-- one node more
told_more :
    {ks : List ℕ} {zs : List ℤ} {ls ks' : List ℕ} {zs' : List ℤ} {ls' : List ℕ} {lo n : ℕ} {values : ℕ → Answer} → Told ks zs ls lo n values →
    Keeps (sized (values n)) n ks zs ls ks' zs' ls' → n < length ks → n < length zs → n < length ls → Told ks' zs' ls' lo (n + 1) values
told_more {ks} {zs} {ls} {lo = lo} {n = n} {values = values} T K a b c =
    record { is = λ m l h. ap (λ (xs : List Answer). answer_at xs m) K.is ∙ by m l h (ℕ_discrete m n) }
  where
    by : (m : ℕ) → lo ≤ m → m < n + 1 → Dec (m ≡ n) → answer_at (set (answers_in ks zs ls) n (sized (values n))) m ≡ sized (values m)
    by m l h (yes q) = rw q (get_or-set_same (answers_in ks zs ls) n (sized (values n)) indeterminate (rows_within ks zs ls n a b c))
    by m l h (no q) = get_or-set_other (answers_in ks zs ls) n m (sized (values n)) indeterminate q ∙ T.is m l (omega arith)

-- THE LOOP'S INVARIANT
pub record Going (bytes starts lengths terminals kinds tokens sizes bindings : List ℕ) (lo hi : ℕ) (file_kinds declared row_of : List ℕ) (at : ℕ) (aks : List ℕ) (azs : List ℤ)
    (als room ks₀ : List ℕ) (zs₀ : List ℤ) (ls₀ ks : List ℕ) (zs : List ℤ) (ls : List ℕ) (n : ℕ) : Type 0 where
  pub kinds_kept : length ks ≡ length ks₀
  pub numbers_kept : length zs ≡ length zs₀
  pub lengths_kept : length ls ≡ length ls₀
  pub from : lo ≤ n
  pub is :
      (t e : Table) (g values : ℕ → Answer) → Against t e bytes starts lengths terminals kinds tokens sizes bindings file_kinds declared →
      Valued t e bindings g lo hi values → Knows t e bindings g row_of at aks azs als lo hi → Comparable t e bindings g row_of at aks azs als room lo hi →
      hi ≤ length ks₀ → hi ≤ length zs₀ → hi ≤ length ls₀ → Told ks zs ls lo n values

module _ {bytes starts lengths terminals kinds tokens sizes bindings : List ℕ} {lo hi : ℕ} {file_kinds declared row_of : List ℕ} {at : ℕ} {aks : List ℕ}
    {azs : List ℤ} {als room : List ℕ} where
  pub going_starts :
      {ks : List ℕ} {zs : List ℤ} {ls : List ℕ} →
      Going bytes starts lengths terminals kinds tokens sizes bindings lo hi file_kinds declared row_of at aks azs als room ks zs ls ks zs ls lo
  going_starts = record { kinds_kept = refl; numbers_kept = refl; lengths_kept = refl; from = omega arith; is = λ t e g values A L Q R a b c. told_none }

  module _ {ks₀ : List ℕ} {zs₀ : List ℤ} {ls₀ ks : List ℕ} {zs : List ℤ} {ls : List ℕ} {n : ℕ}
      (G : Going bytes starts lengths terminals kinds tokens sizes bindings lo hi file_kinds declared row_of at aks azs als room ks₀ zs₀ ls₀ ks zs ls n) where
    pub going_on :
        n < hi → {ks' : List ℕ} {zs' : List ℤ} {ls' : List ℕ} →
        EvaluatesNode bytes starts lengths terminals kinds tokens sizes bindings file_kinds declared row_of at aks azs als room ks zs ls ks' zs' ls' n →
        length ks' ≡ length ks → length zs' ≡ length zs → length ls' ≡ length ls →
        Going bytes starts lengths terminals kinds tokens sizes bindings lo hi file_kinds declared row_of at aks azs als room ks₀ zs₀ ls₀ ks' zs' ls' (n + 1)
    going_on l N p q r =
        record {
          kinds_kept = p ∙ G.kinds_kept;
          numbers_kept = q ∙ G.numbers_kept;
          lengths_kept = r ∙ G.lengths_kept;
          from = omega (arith, G.from);
          is = λ t e g values A L Q R a b c.
              let T = G.is t e g values A L Q R a b c in
              told_more T (N.is t e g values lo hi A L Q R G.from l T) (omega (arith, G.kinds_kept)) (omega (arith, G.numbers_kept)) (omega (arith, G.lengths_kept));
        }

    pub going_ends :
        hi ≤ n → EvaluatesNodes bytes starts lengths terminals kinds tokens sizes bindings lo hi file_kinds declared row_of at aks azs als room ks₀ zs₀ ls₀ ks zs ls
    going_ends l =
        record {
          kinds_kept = G.kinds_kept;
          numbers_kept = G.numbers_kept;
          lengths_kept = G.lengths_kept;
          is = λ t e g values A L Q R a b c.
              let T = G.is t e g values A L Q R a b c in record { is = λ m i j. T.is m i (omega arith) };
        }

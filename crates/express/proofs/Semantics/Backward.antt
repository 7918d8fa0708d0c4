-- The definitions as a loop over the nodes from the last to the first has them: node i from what is known of the nodes after it.
use mathlib.Core.Path.{◌≡◌}
use mathlib.Core.Bool.{Bool, cond}
use mathlib.Core.List.{[], ◌∷◌, map}
use Prim.Native.Nat.{ℕ, zero, suc, ◌+◌, ◌-◌, ◌≤◌, ◌<◌}
use native.Mathlib.Omega.{arith}
use lib.ListN.{drop}
use Rattle.express.specs.Syntax.NodeKind.{schema}
use Rattle.relations.specs.Select.{span, keep}
use Rattle.express.specs.Syntax.Tree.{Table, count, is, is_declaration, owner, schema_of}
use Rattle.express.specs.Names.Fault.{fine}
use Rattle.express.specs.Names.Names.{Stage, sooner, least}
use Rattle.relations.proofs.Select.{span_step, span_end, first_step, first_end, first_rises}

module _ (t : Table) (i : ℕ) where
  pub owner_step : i < count t → owner t i ≡ cond (is_declaration t i) i (owner t (i + 1))
  unfolding owner
  owner_step h = first_step (is_declaration t) (count t) i h

  pub schema_step : i < count t → schema_of t i ≡ cond (is t schema i) i (schema_of t (i + 1))
  unfolding schema_of
  schema_step h = first_step (is t schema) (count t) i h

-- past the last node
pub owner_end : (t : Table) → owner t (count t) ≡ count t
unfolding owner
owner_end t = first_end (is_declaration t) (count t) (count t) (omega arith)

pub schema_end : (t : Table) → schema_of t (count t) ≡ count t
unfolding schema_of
schema_end t = first_end (is t schema) (count t) (count t) (omega arith)

-- they rise: so the names of a declaration stand together, and the declarations of a schema
pub owner_rises : (t : Table) (i j : ℕ) → i ≤ j → j ≤ count t → owner t i ≤ owner t j
unfolding owner
owner_rises t i j = first_rises (is_declaration t) (count t) i j

pub schema_rises : (t : Table) (i j : ℕ) → i ≤ j → j ≤ count t → schema_of t i ≤ schema_of t j
unfolding schema_of
schema_rises t i j = first_rises (is t schema) (count t) i j

module _ (n : ℕ) where
  pub least_step : (s : Stage) (i : ℕ) → i < n → least s (span i (n - i)) ≡ sooner (s i) (least s (span (i + 1) (n - (i + 1))))
  unfolding least
  least_step s i h = rw (span_step n i h)

  pub least_end : (s : Stage) → least s (span n (n - n)) ≡ fine
  unfolding least
  least_end s = rw (span_end n n (omega arith))

  pub keep_step : (p : ℕ → Bool) (i : ℕ) → i < n → keep p (span i (n - i)) ≡ cond (p i) (i ∷ keep p (span (i + 1) (n - (i + 1)))) (keep p (span (i + 1) (n - (i + 1))))
  unfolding keep
  keep_step p i h = rw (span_step n i h)

  pub keep_end : (p : ℕ → Bool) → keep p (span n (n - n)) ≡ []
  unfolding keep
  keep_end p = rw (span_end n n (omega arith))

-- a column made of all nodes, from i on
drop_from : (f : ℕ → ℕ) (j d i : ℕ) → drop i (map f (span j d)) ≡ map f (span (j + i) (d - i))
unfolding span
drop_from f j d zero = let a : j + 0 ≡ j = omega arith in let b : d - 0 ≡ d = omega arith in rw (a, b)
drop_from f j zero (suc i) = let a : 0 - suc i ≡ 0 = omega arith in rw a
drop_from f j (suc d) (suc i) =
    let a : suc j + i ≡ j + suc i = omega arith in
    let b : suc d - suc i ≡ d - i = omega arith in
    rw b (rw a at (drop_from f (suc j) d i))

pub drop_column : (f : ℕ → ℕ) (n i : ℕ) → drop i (map f (span 0 n)) ≡ map f (span i (n - i))
drop_column f n i = let a : 0 + i ≡ i = omega arith in rw a at (drop_from f 0 n i)

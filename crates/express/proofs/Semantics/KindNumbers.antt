-- Kinds by their numbers: each number is one kind's, and what is asked of kinds is asked of the numbers.
use mathlib.Core.Path.{◌≡◌, refl, sym, ap, ◌∙◌}
use mathlib.Core.Bool.{Bool, true, false, cond, not, ◌||◌}
use Prim.Native.Nat.{ℕ, zero, suc, ◌+◌, ◌<◌}
use native.Mathlib.Omega.{arith}
use borrow.Author.Tests.{eqb-true, ne_eqb}
use lib.Dec.{eqb}
use Rattle.express.specs.Semantics.Operate.{Kind, integers, logicals, binaries, strings, items, undetermined, untyped, integral, truthful, summable, comparable}
use Rattle.express.specs.Semantics.Kind.{kind_number, of_number, same, common}

pub number_back : (k : Kind) → of_number (kind_number k) ≡ k
number_back integers = refl
number_back logicals = refl
number_back binaries = refl
number_back strings = refl
number_back (items y) =
    rw (
      ne_eqb (y + 6) 0 (λ e. omega arith),
      ne_eqb (y + 6) 1 (λ e. omega arith),
      ne_eqb (y + 6) 2 (λ e. omega arith),
      ne_eqb (y + 6) 3 (λ e. omega arith),
      ne_eqb (y + 6) 4 (λ e. omega arith),
      ne_eqb (y + 6) 5 (λ e. omega arith),
    )
    (ap items (omega arith))
number_back undetermined = refl
number_back untyped = refl

-- every number is a kind's
more_than_five : (n : ℕ) → 5 < n → kind_number (of_number n) ≡ n
more_than_five n l =
    rw (
      ne_eqb n 0 (λ e. omega arith),
      ne_eqb n 1 (λ e. omega arith),
      ne_eqb n 2 (λ e. omega arith),
      ne_eqb n 3 (λ e. omega arith),
      ne_eqb n 4 (λ e. omega arith),
      ne_eqb n 5 (λ e. omega arith),
    )
    (omega arith)

pub number_there : (n : ℕ) → kind_number (of_number n) ≡ n
number_there zero = refl
number_there (suc zero) = refl
number_there (suc (suc zero)) = refl
number_there (suc (suc (suc zero))) = refl
number_there (suc (suc (suc (suc zero)))) = refl
number_there (suc (suc (suc (suc (suc zero))))) = refl
number_there (suc (suc (suc (suc (suc (suc n)))))) = more_than_five (suc (suc (suc (suc (suc (suc n)))))) (omega arith)

pub same_kinds : (j k : Kind) → same j k ≡ true → j ≡ k
same_kinds j k e = sym (number_back j) ∙ ap of_number (eqb-true (kind_number j) (kind_number k) e) ∙ number_back k

pub common_number :
    (j k : Kind) →
    kind_number (common j k) ≡
    cond (eqb (kind_number j) 1) (kind_number k)
    (cond (eqb (kind_number k) 1) (kind_number j) (cond (eqb (kind_number j) (kind_number k)) (kind_number j) 0))
common_number j k = by (same j undetermined) (same k undetermined) (same j k)
  where
    by : (a b c : Bool) → kind_number (cond a k (cond b j (cond c j untyped))) ≡ cond a (kind_number k) (cond b (kind_number j) (cond c (kind_number j) 0))
    by true b c = refl
    by false true c = refl
    by false false true = refl
    by false false false = refl

pub integral_number : (k : Kind) → integral k ≡ (eqb (kind_number k) 2 || eqb (kind_number k) 1)
integral_number integers = refl
integral_number logicals = refl
integral_number binaries = refl
integral_number strings = refl
integral_number (items y) = rw (ne_eqb (y + 6) 2 (λ e. omega arith), ne_eqb (y + 6) 1 (λ e. omega arith))
integral_number undetermined = refl
integral_number untyped = refl

pub truthful_number : (k : Kind) → truthful k ≡ (eqb (kind_number k) 3 || eqb (kind_number k) 1)
truthful_number integers = refl
truthful_number logicals = refl
truthful_number binaries = refl
truthful_number strings = refl
truthful_number (items y) = rw (ne_eqb (y + 6) 3 (λ e. omega arith), ne_eqb (y + 6) 1 (λ e. omega arith))
truthful_number undetermined = refl
truthful_number untyped = refl

pub summable_number : (k : Kind) → summable k ≡ (eqb (kind_number k) 2 || (eqb (kind_number k) 4 || (eqb (kind_number k) 5 || eqb (kind_number k) 1)))
summable_number integers = refl
summable_number logicals = refl
summable_number binaries = refl
summable_number strings = refl
summable_number (items y) = rw (ne_eqb (y + 6) 2 (λ e. omega arith), ne_eqb (y + 6) 4 (λ e. omega arith), ne_eqb (y + 6) 5 (λ e. omega arith), ne_eqb (y + 6) 1 (λ e. omega arith))
summable_number undetermined = refl
summable_number untyped = refl

pub comparable_number : (k : Kind) → comparable k ≡ not (eqb (kind_number k) 0)
comparable_number integers = refl
comparable_number logicals = refl
comparable_number binaries = refl
comparable_number strings = refl
comparable_number (items y) = rw (ne_eqb (y + 6) 0 (λ e. omega arith))
comparable_number undetermined = refl
comparable_number untyped = refl

-- What is counted of a list, as the count of its places that pass the test.
use mathlib.Core.Path.{◌≡◌, refl, sym, ap, ◌∙◌}
use mathlib.Core.Bool.{Bool, true, false, cond}
use mathlib.Core.List.{List, [], ◌∷◌}
use Prim.Native.Nat.{ℕ, zero, suc, ◌+◌, ◌≤◌}
use native.Mathlib.Omega.{arith}
use lib.ListN.{length, get_or}
use lib.Dec.{eqb}
use Rattle.std.specs.List.{count_by}
use Rattle.std.proofs.lemmas.List.Recursion.{is_count_by}
use Rattle.relations.specs.Select.{span, keep}
use Rattle.relations.proofs.Select.{keep_short}
use Rattle.express.specs.Syntax.NodeKind as node
use Rattle.constants.specs.Constants.{row_in}
use Rattle.stages.specs.Reading.{Constants}

-- places counted from the second on
shifted : (p : ℕ → Bool) (i d : ℕ) → length (keep p (span (suc i) d)) ≡ length (keep (λ m. p (suc m)) (span i d))
unfolding keep span
shifted p i zero = refl
shifted p i (suc d) = by (p (suc i)) (shifted p (suc i) d)
  where
    by : (b : Bool) → length (keep p (span (suc (suc i)) d)) ≡ length (keep (λ m. p (suc m)) (span (suc i) d))
        → length (cond b (suc i ∷ keep p (span (suc (suc i)) d)) (keep p (span (suc (suc i)) d)))
        ≡ length (cond b (i ∷ keep (λ m. p (suc m)) (span (suc i) d)) (keep (λ m. p (suc m)) (span (suc i) d)))
    by true e = ap suc e
    by false e = e

places : (ℕ → Bool) → List ℕ → ℕ
places q xs = length (keep (λ m. q (get_or xs m 0)) (span 0 (length xs)))

one_more : (q : ℕ → Bool) (x : ℕ) (xs : List ℕ) → places q (x ∷ xs) ≡ cond (q x) (1 + places q xs) (places q xs)
unfolding places keep span
one_more q x xs = by (q x) (keep (λ m. q (get_or (x ∷ xs) m 0)) (span (suc 0) (length xs))) (places q xs) (shifted (λ m. q (get_or (x ∷ xs) m 0)) 0 (length xs))
  where
    by : (b : Bool) (rest : List ℕ) (n : ℕ) → length rest ≡ n → length (cond b (0 ∷ rest) rest) ≡ cond b (1 + n) n
    by true rest n e = omega (arith, e)
    by false rest n e = e

none : (q : ℕ → Bool) → places q [] ≡ 0
unfolding places keep span
none q = refl

pub counted_places : (q : ℕ → Bool) (xs : List ℕ) → count_by q xs ≡ length (keep (λ m. q (get_or xs m 0)) (span 0 (length xs)))
unfolding places
counted_places q xs = sym (is_count_by (places q) q (none q) (one_more q) xs)

pub constants_counted : {kinds : List ℕ} {n : ℕ} → n ≡ count_by (λ k. eqb k node.constant) kinds → Constants kinds n
constants_counted {kinds} e = record { is = e ∙ counted_places (λ k. eqb k node.constant) kinds }

-- there are no more of them than nodes
length_span : (i d : ℕ) → length (span i d) ≡ d
unfolding span
length_span i zero = refl
length_span i (suc d) = ap suc (length_span (suc i) d)

pub row_short : (kinds : List ℕ) → row_in kinds (length kinds) ≤ length kinds
row_short kinds = omega (arith, keep_short (λ m. eqb (get_or kinds m 0) node.constant) (span 0 (length kinds)), length_span 0 (length kinds))

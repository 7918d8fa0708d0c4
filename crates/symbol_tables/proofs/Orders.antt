-- What some nodes mean does not go by their order: lists with the same members, each once, have none, the same one, or several.
use mathlib.Core.Path.{◌≡◌, refl, sym, ap, ◌∙◌}
use mathlib.Core.Logic.{◌↔◌, ⊎_elim}
use mathlib.Core.Bool.{Bool, true, false, cond}
use mathlib.Core.List.Memᴰ
use mathlib.Core.List.{List, [], ◌∷◌, ◌++◌, Memᴰ}
use Prim.Native.Nat.{ℕ}
use native.Mathlib.Omega.{arith}
use Rattle.relations.specs.Select.{keep, Ascending, nil, cons}
use Rattle.relations.proofs.Select.{keep_mem, ascending_from}
use Rattle.express.specs.Names.Scope.{meaning}

-- no member stands in the list twice
pub data Distinct : List ℕ → Type 0 where
  empty : Distinct []
  more : {n : ℕ} {ns : List ℕ} → (Memᴰ n ns → ⊥) → Distinct ns → Distinct (n ∷ ns)

pub ascending_distinct : {lo : ℕ} {ns : List ℕ} → Ascending lo ns → Distinct ns
ascending_distinct nil = empty
ascending_distinct (cons {n = n} l a) = more (λ m. omega (arith, ascending_from a n m)) (ascending_distinct a)

pub distinct_keep : (p : ℕ → Bool) {ns : List ℕ} → Distinct ns → Distinct (keep p ns)
unfolding keep
distinct_keep p empty = empty
distinct_keep p (more {n} {ns} h d) = by (p n) (distinct_keep p d)
  where
    by : (b : Bool) → Distinct (keep p ns) → Distinct (cond b (n ∷ keep p ns) (keep p ns))
    by true e = more (λ m. h (keep_mem p ns m).0) e
    by false e = e

pub distinct_append : {ms ns : List ℕ} → Distinct ms → Distinct ns → ((k : ℕ) → Memᴰ k ms → Memᴰ k ns → ⊥) → Distinct (ms ++ ns)
distinct_append empty e h = e
distinct_append (more {n} {ns = ms} a d) e h =
    more (λ m. ⊎_elim a (h n (Memᴰ.head refl)) (Memᴰ.append_cases ms m)) (distinct_append d e (λ k x. h k (Memᴰ.tail x)))

two_apart : {x y : ℕ} {ns : List ℕ} → Distinct (x ∷ y ∷ ns) → x ≡ y → ⊥
two_apart (more h d) e = h (Memᴰ.head e)

first_in : {x : ℕ} {ns : List ℕ} → Memᴰ x (x ∷ ns)
first_in = Memᴰ.head refl

second_in : {x y : ℕ} {ns : List ℕ} → Memᴰ y (x ∷ y ∷ ns)
second_in = Memᴰ.tail (Memᴰ.head refl)

pub meaning_same : (xs ys : List ℕ) → Distinct xs → Distinct ys → ((k : ℕ) → Memᴰ k xs ↔ Memᴰ k ys) → meaning xs ≡ meaning ys
meaning_same [] [] d e h = refl
meaning_same [] (y ∷ ys) d e h = absurd (Memᴰ.not-nil ((h y).1 first_in))
meaning_same (x ∷ xs) [] d e h = absurd (Memᴰ.not-nil ((h x).0 first_in))
meaning_same (x ∷ []) (y ∷ []) d e h = ap (λ (k : ℕ). meaning (k ∷ [])) (Memᴰ.eq_of_singleton ((h x).0 first_in))
meaning_same (x ∷ []) (y ∷ z ∷ ys) d e h =
    absurd (two_apart e (Memᴰ.eq_of_singleton ((h y).1 first_in) ∙ sym (Memᴰ.eq_of_singleton ((h z).1 second_in))))
meaning_same (x ∷ z ∷ xs) (y ∷ []) d e h =
    absurd (two_apart d (Memᴰ.eq_of_singleton ((h x).0 first_in) ∙ sym (Memᴰ.eq_of_singleton ((h z).0 second_in))))
meaning_same (x ∷ z ∷ xs) (y ∷ w ∷ ys) d e h = refl

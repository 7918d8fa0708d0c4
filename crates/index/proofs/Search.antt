-- Searches that pass over what cannot be met: where whatever passes one test passes another, the search by the first may start where the
-- search by the second ends. A walk along a chain is such a search.
use mathlib.Core.Path.{◌≡◌, refl, sym, ap, ◌∙◌}
use mathlib.Core.Bool.{Bool, true, false, cond, false≢true}
use mathlib.Core.List.{List}
use mathlib.Core.Logic.{by_cases}
use Prim.Native.Nat.{ℕ, zero, suc, ◌+◌, ◌-◌, ◌≤◌, ◌<◌}
use native.Mathlib.Omega.{arith}
use native.Mathlib.Decide.{ℕ_discrete}
use lib.ListN.{length, get_or, set}
use lib.Seq.{get_or-set_same, get_or-set_other}
use Rattle.relations.specs.Select.{first_from}
use Rattle.index.specs.Link.{last_index_below}

module _ (p q : ℕ → Bool) (sub : (j : ℕ) → p j ≡ true → q j ≡ true) where
  -- what fails the wider test fails the narrower
  out : (j : ℕ) → q j ≡ false → p j ≡ false
  out j e = by (p j) refl
    where
      by : (b : Bool) → p j ≡ b → p j ≡ false
      by true h = absurd (false≢true (sym e ∙ sub j h))
      by false h = h

  -- upward
  skip : (d i : ℕ) → first_from p i d ≡ first_from p (first_from q i d) (i + d - first_from q i d)
  unfolding first_from
  skip zero i = let e : i + 0 - i ≡ 0 = omega arith in rw e
  skip (suc d) i = by (q i) refl (skip d (suc i))
    where
      by : (b : Bool) → q i ≡ b → first_from p (suc i) d ≡ first_from p (first_from q (suc i) d) (suc i + d - first_from q (suc i) d)
          → first_from p i (suc d) ≡ first_from p (cond b i (first_from q (suc i) d)) (i + suc d - cond b i (first_from q (suc i) d))
      by true e more = let z : i + suc d - i ≡ suc d = omega arith in rw z
      by false e more =
          let z : i + suc d ≡ suc i + d = omega arith in
          ap (λ (b : Bool). cond b i (first_from p (suc i) d)) (out i e)
          ∙ more
          ∙ ap (λ (m : ℕ). first_from p (first_from q (suc i) d) (m - first_from q (suc i) d)) (sym z)

  pub first_skip : (n i : ℕ) → i ≤ n → first_from p i (n - i) ≡ first_from p (first_from q i (n - i)) (n - first_from q i (n - i))
  first_skip n i h =
      let e : i + (n - i) ≡ n = omega arith in
      skip (n - i) i ∙ ap (λ (m : ℕ). first_from p (first_from q i (n - i)) (m - first_from q i (n - i))) e

  -- downward
  pub last_skip : (i : ℕ) → last_index_below p i ≡ last_index_below p (last_index_below q i)
  unfolding last_index_below
  last_skip zero = refl
  last_skip (suc i) = by (q i) refl (last_skip i)
    where
      by : (b : Bool) → q i ≡ b → last_index_below p i ≡ last_index_below p (last_index_below q i) → last_index_below p (suc i) ≡ last_index_below p (cond b (suc i) (last_index_below q i))
      by true e more = refl
      by false e more = ap (λ (b : Bool). cond b (suc i) (last_index_below p i)) (out i e) ∙ more

module _ (p : ℕ → Bool) where
  pub last_next : (i : ℕ) → last_index_below p (i + 1) ≡ cond (p i) (i + 1) (last_index_below p i)
  unfolding last_index_below
  last_next i = rw native.Mathlib.Numerals.add-one

  pub last_none_yet : last_index_below p 0 ≡ 0
  unfolding last_index_below
  last_none_yet = refl

  pub last_le : (i : ℕ) → last_index_below p i ≤ i
  unfolding last_index_below
  last_le zero = omega arith
  last_le (suc i) = by (p i) (last_le i)
    where
      by : (b : Bool) → last_index_below p i ≤ i → cond b (suc i) (last_index_below p i) ≤ suc i
      by true h = omega arith
      by false h = omega arith

  pub last_passes : (i k : ℕ) → last_index_below p i ≡ suc k → p k ≡ true
  unfolding last_index_below
  last_passes zero k e = absurd (omega arith)
  last_passes (suc i) k e = by (p i) refl e (last_passes i k)
    where
      by : (b : Bool) → p i ≡ b → cond b (suc i) (last_index_below p i) ≡ suc k → (last_index_below p i ≡ suc k → p k ≡ true) → p k ≡ true
      by true h e more = let q : k ≡ i = omega arith in rw q h
      by false h e more = more e

  pub last_none : (i j : ℕ) → last_index_below p i ≡ 0 → j < i → p j ≡ false
  unfolding last_index_below
  last_none zero j e h = absurd (omega arith)
  last_none (suc i) j e h = by (p i) refl e (last_none i j)
    where
      by : (b : Bool) → p i ≡ b → cond b (suc i) (last_index_below p i) ≡ 0 → (last_index_below p i ≡ 0 → j < i → p j ≡ false) → p j ≡ false
      by true t e more = absurd (omega arith)
      by false t e more = by_cases (ℕ_discrete j i) (λ w. rw w t) (λ w. more e (omega (arith, w)))

-- what holds of an element after a store, by whether it is the one stored
pub at_set : (P : ℕ → Type 0) (d : List ℕ) (i v k : ℕ) → i < length d → (k ≡ i → P v) → ((k ≡ i → ⊥) → P (get_or d k 0)) → P (get_or (set d i v) k 0)
at_set P d i v k l same other =
    by_cases (ℕ_discrete k i)
    (λ e. let h = same e in rw (e, get_or-set_same d i v 0 l) h)
    (λ n. let h = other n in rw (get_or-set_other d i k v 0 n) h)

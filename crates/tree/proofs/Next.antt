-- What is kept from a node on is what is kept from the next node that passes the test on.
use mathlib.Core.Path.{◌≡◌, refl, sym, ◌∙◌}
use mathlib.Core.Logic.{⊎_elim}
use mathlib.Core.Bool.{Bool, true, false, cond}
use mathlib.Core.List.{List, [], ◌∷◌}
use Prim.Native.Nat.{ℕ, max, ◌+◌, ◌-◌, ◌≤◌, ◌<◌}
use native.Mathlib.Omega.{arith}
use borrow.Author.Tests.{eqb-true, ltb-true, ltb-false}
use lib.Dec.{eqb, ltb}
use lib.ListN.{length, get_or}
use Rattle.relations.specs.Select.{span, first_from, keep}
use Rattle.relations.proofs.Select.{le_or, first_is, first_end, keep_first, span_end, span_step}

module _ (p : ℕ → Bool) (n i : ℕ) where
  abbrev next : ℕ
  next = first_from p i (n - i)

  kept_there : (b : Bool) → ltb next n ≡ b → cond b (next ∷ keep p (span (next + 1) (n - (next + 1)))) [] ≡ keep p (span next (n - next))
  unfolding keep
  kept_there true e =
      let l = ltb-true next n e in
      let F = first_is p i (n - i) in
      sym (rw (span_step n next l, F.passes (omega (arith, l))))
  kept_there false e = sym (rw (span_end n next (ltb-false next n e)))

  pub next_kept : i ≤ n → keep p (span i (n - i)) ≡ keep p (span next (n - next))
  next_kept l = keep_first p n i l ∙ kept_there (ltb next n) refl

-- the next node of a kind is of that kind, unless there is none
pub next_is : (kinds : List ℕ) (k i : ℕ) → {f : ℕ} → f ≡ first_from (λ m. eqb (get_or kinds m 0) k) i (length kinds - i) → f < length kinds → get_or kinds f 0 ≡ k
next_is kinds k i {f} e l =
    let F = first_is (λ m. eqb (get_or kinds m 0) k) i (length kinds - i) in
    rw e (eqb-true _ k (F.passes (omega (arith, l, e))))

pub next_beyond : (p : ℕ → Bool) (i d : ℕ) → {f : ℕ} → f ≡ first_from p i d → i ≤ f
next_beyond p i d e = let F = first_is p i d in rw e F.from

-- a loop from i up to e that found none answers the later of both
pub first_max :
    (p : ℕ → Bool) {i e n : ℕ} → (i ≤ e → n ≤ e) → e ≤ n → first_from p n (e - n) ≡ first_from p i (e - i) → max i e ≡ first_from p i (e - i)
first_max p {i} {e} {n} a l h =
    ⊎_elim (λ (b : i ≤ e). let m : max i e ≡ n = omega (arith, a b) in m ∙ sym (first_end p e n l) ∙ h)
    (λ (b : e < i). let m : max i e ≡ i = omega arith in m ∙ sym (first_end p e i (omega arith)))
    (le_or i e)

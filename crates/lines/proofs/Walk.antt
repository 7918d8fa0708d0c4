-- From one number that passes a test to the next: turn by turn, they are those that are kept of all numbers (`walk_goes_on`).
use mathlib.Core.Path.{◌≡◌, refl, sym, ap, ◌∙◌}
use mathlib.Core.Bool.{Bool, true, false, cond}
use mathlib.Core.List.{List, [], ◌∷◌}
use mathlib.Core.Logic.{◌⊎◌, inl, inr, ⊎_elim}
use Prim.Native.Nat.{ℕ, zero, suc, ◌+◌, ◌-◌, ◌≤◌, ◌<◌}
use native.Mathlib.Numerals.{add-one}
use native.Mathlib.Omega.{arith}
use lib.ListN.{length, get_or, drop}
use lib.Seq.{drop-cons}
use Rattle.relations.specs.Select.{span, first_from, keep}
use Rattle.relations.proofs.Select.{le_or, first_is, first_of}

-- ---- what is kept of a span: the first that passes, and what is kept behind it

-- f is the first from i on, of d numbers
pub record KeptBy (p : ℕ → Bool) (i d f : ℕ) : Type 0 where
  pub more : f < i + d → keep p (span i d) ≡ f ∷ keep p (span (suc f) (i + d - suc f))
  pub over : i + d ≤ f → keep p (span i d) ≡ []

kept_by : (p : ℕ → Bool) (i d : ℕ) → KeptBy p i d (first_from p i d)
unfolding span first_from keep
kept_by p i zero = record { more = λ h. absurd (omega arith); over = λ h. refl }
kept_by p i (suc d) = by (p i) refl (kept_by p (suc i) d)
  where
    by : (b : Bool) → p i ≡ b → KeptBy p (suc i) d (first_from p (suc i) d) → KeptBy p i (suc d) (cond b i (first_from p (suc i) d))
    by true e k = record {
      more = λ h. let size : i + suc d - suc i ≡ d = omega arith in rw (e, size);
      over = λ h. absurd (omega arith);
    }
    by false e k =
        let f = first_from p (suc i) d in
        let end : i + suc d ≡ suc i + d = omega arith in
        record {
          more = λ h. rw e (k.more (omega arith) ∙ ap (λ (m : ℕ). f ∷ keep p (span (suc f) (m - suc f))) (sym end));
          over = λ h. rw e (k.over (omega arith));
        }

-- ---- two tests that agree, the second on more numbers: the same is the first, or there is none among the fewer

pub first_longer : (p q : ℕ → Bool) → ((m : ℕ) → q m ≡ p m) → (i n m : ℕ) → n ≤ m
    → (first_from q i (m - i) ≡ first_from p i (n - i)) ⊎ ((n ≤ first_from q i (m - i)) × (n ≤ first_from p i (n - i)))
first_longer p q agree i n m le =
    let f = first_from p i (n - i) in
    let g = first_from q i (m - i) in
    let F = first_is p i (n - i) in
    let G = first_is q i (m - i) in
    ⊎_elim
    (λ (past : n ≤ f). ⊎_elim
    (λ (over : n ≤ g). inr (over, past))
    (λ (less : g < n).
    let hit : q g ≡ true = G.passes (omega (arith, G.from)) in
    let none : p g ≡ false = F.none g G.from (omega arith) in
    let z : ◌≡◌ {A = Bool} true false = sym hit ∙ agree g ∙ none in
    let w : ◌≡◌ {A = ℕ} 0 1 = cc in absurd (omega arith))
    (le_or n g))
    (λ (less : f < n).
    inl (first_of q m i f F.from (omega arith) (agree f ∙ F.passes (omega (arith, F.from)))
    (λ j lo hi. agree j ∙ F.none j lo hi)))
    (le_or n f)

module _ (p q : ℕ → Bool) (agree : (m : ℕ) → q m ≡ p m) where
  keep_agree : (xs : List ℕ) → keep q xs ≡ keep p xs
  unfolding keep
  keep_agree [] = refl
  keep_agree (x ∷ xs) = rw (agree x, keep_agree xs)

  keep_none : (i d : ℕ) → ((m : ℕ) → i ≤ m → p m ≡ false) → keep p (span i d) ≡ []
  unfolding keep span
  keep_none i zero h = refl
  keep_none i (suc d) h = rw (h i (omega arith)) (keep_none (suc i) d (λ m l. h m (omega arith)))

  keep_span : (i d e : ℕ) → ((m : ℕ) → i + d ≤ m → p m ≡ false) → keep p (span i (d + e)) ≡ keep p (span i d)
  unfolding keep span
  keep_span i zero e h = let q : 0 + e ≡ e = omega arith in rw q (keep_none i e (λ m l. h m (omega arith)))
  keep_span i (suc d) e h =
      let s : suc d + e ≡ suc (d + e) = omega arith in
      rw (s, keep_span (suc i) d e (λ m l. h m (omega arith)))

  -- what passes lies among the first n numbers
  pub keep_longer : (n m : ℕ) → n ≤ m → ((k : ℕ) → n ≤ k → p k ≡ false) → keep q (span 0 m) ≡ keep p (span 0 n)
  keep_longer n m le h =
      let e : m ≡ n + (m - n) = omega arith in
      keep_agree (span 0 m) ∙ ap (λ (k : ℕ). keep p (span 0 k)) e ∙ keep_span 0 n (m - n) (λ k l. h k (omega arith))

-- ---- the walk: from a node on come the constants that are left

module _ (p : ℕ → Bool) (n : ℕ) (cs : List ℕ) where
  pub walk_goes_on : (i from : ℕ) → drop i cs ≡ keep p (span from (n - from)) → i < length cs
      → (first_from p from (n - from) ≡ get_or cs i 0) × (drop (i + 1) cs ≡ keep p (span (get_or cs i 0 + 1) (n - (get_or cs i 0 + 1))))
  walk_goes_on i from here h =
      let f = first_from p from (n - from) in
      let k = kept_by p from (n - from) in
      let low : from ≤ f = (first_is p from (n - from)).from in
      let split : drop i cs ≡ get_or cs i 0 ∷ drop (suc i) cs = drop-cons cs i 0 h in
      ⊎_elim
      (λ (past : from + (n - from) ≤ f).
      let none : keep p (span from (n - from)) ≡ [] = k.over past in
      let z : ◌≡◌ {A = ℕ} 0 1 = cc in absurd (omega arith))
      (λ (less : f < from + (n - from)).
      let more : keep p (span from (n - from)) ≡ f ∷ keep p (span (suc f) (from + (n - from) - suc f)) = k.more less in
      let is : f ≡ get_or cs i 0 = cc in
      let rest : drop (suc i) cs ≡ keep p (span (suc f) (from + (n - from) - suc f)) = cc in
      let size : from + (n - from) - suc f ≡ n - suc f = omega arith in
      (is, rw (add-one i, add-one (get_or cs i 0), ← is, ← size) rest))
      (le_or (from + (n - from)) f)

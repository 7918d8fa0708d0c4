-- How many of the first n values are not 0.
use mathlib.Core.Path.{◌≡◌, refl, sym, ap, ap₂, ◌∙◌}
use mathlib.Core.Logic.{by_cases}
use Prim.Native.Nat.{ℕ, zero, suc, ◌+◌, ◌≤◌, ◌<◌}
use native.Mathlib.Omega.{arith}
use native.Mathlib.Decide.{ℕ_discrete}
use Rattle.graph.specs.Mark.{flag, nonzero}

pub flag_one : (x : ℕ) → 0 < x → flag x ≡ 1
unfolding flag
flag_one zero h = absurd (omega arith)
flag_one (suc x) h = refl

flag_le : (x : ℕ) → flag x ≤ 1
unfolding flag
flag_le zero = omega arith
flag_le (suc x) = omega arith

pub nonzero_none : (s : ℕ → ℕ) (n : ℕ) → ((k : ℕ) → s k ≡ 0) → nonzero s n ≡ 0
unfolding nonzero flag
nonzero_none s zero h = refl
nonzero_none s (suc n) h = rw (h n) (omega (arith, nonzero_none s n h))

pub nonzero_le : (s : ℕ → ℕ) (n : ℕ) → nonzero s n ≤ n
unfolding nonzero
nonzero_le s zero = omega arith
nonzero_le s (suc n) = omega (arith, flag_le (s n), nonzero_le s n)

-- with an element that is 0, they are fewer
pub nonzero_fewer : (s : ℕ → ℕ) (n w : ℕ) → w < n → s w ≡ 0 → nonzero s n < n
unfolding nonzero flag
nonzero_fewer s zero w l h = absurd (omega arith)
nonzero_fewer s (suc n) w l h =
    by_cases (ℕ_discrete w n)
    (λ e. let z : flag (s n) ≡ 0 = ap flag (ap (λ (x : ℕ). s x) (sym e) ∙ h) in omega (arith, z, nonzero_le s n))
    (λ e. omega (arith, flag_le (s n), nonzero_fewer s n w (omega (arith, e)) h))

pub nonzero_all : (s : ℕ → ℕ) (n : ℕ) → ((v : ℕ) → v < n → 0 < s v) → nonzero s n ≡ n
unfolding nonzero
nonzero_all s zero h = refl
nonzero_all s (suc n) h =
    omega (arith, flag_one (s n) (h n (omega arith)), nonzero_all s n (λ v l. h v (omega arith)))

-- where the same elements are not 0, as many are
pub nonzero_agree : (l l' : ℕ → ℕ) (n : ℕ) → ((v : ℕ) → v < n → flag (l' v) ≡ flag (l v)) → nonzero l' n ≡ nonzero l n
unfolding nonzero
nonzero_agree l l' zero h = refl
nonzero_agree l l' (suc n) h = ap₂ ◌+◌ (h n (omega arith)) (nonzero_agree l l' n (λ v k. h v (omega arith)))

-- one more
pub nonzero_more : (l l' : ℕ → ℕ) (n w : ℕ) → w < n → l w ≡ 0 → 0 < l' w → ((v : ℕ) → (v ≡ w → ⊥) → l' v ≡ l v) → nonzero l' n ≡ nonzero l n + 1
unfolding nonzero flag
nonzero_more l l' zero w k h p off = absurd (omega arith)
nonzero_more l l' (suc n) w k h p off =
    by_cases (ℕ_discrete w n)
    (λ e.
    let a : flag (l' n) ≡ 1 = ap (λ (x : ℕ). flag (l' x)) (sym e) ∙ flag_one (l' w) p in
    let b : flag (l n) ≡ 0 = ap (λ (x : ℕ). flag (l x)) (sym e) ∙ ap flag h in
    omega (arith, a, b, nonzero_agree l l' n (λ v j. ap flag (off v (λ q. omega arith)))))
    (λ e.
    let a : flag (l' n) ≡ flag (l n) = ap flag (off n (λ q. e (sym q))) in
    omega (arith, a, nonzero_more l l' n w (omega (arith, e)) h p off))

-- The path and the groups along it: what each step makes of them.
use mathlib.Core.Path.{◌≡◌, sym, ap, ◌∙◌}
use mathlib.Core.Logic.{by_cases}
use Prim.Native.Nat.{ℕ, ◌+◌, ◌-◌, ◌≤◌, ◌<◌}
use native.Mathlib.Omega.{arith}
use native.Mathlib.Decide.{ℕ_discrete, dec_lt}
use Rattle.cycles.specs.State.{State}
use Rattle.cycles.specs.Search.{start, Within, Line}
use Rattle.cycles.proofs.Cell.{Put}

module _ {σ : State} {height depth groups : ℕ} (p : Line σ height depth groups) where
  path_upto : (j k : ℕ) → j ≤ k → k < depth → σ.path j ≤ σ.path k
  path_upto j k l h =
      by_cases (ℕ_discrete j k) (λ e. let q = ap (λ (x : ℕ). σ.path x) e in omega arith) (λ e. omega (arith, p.rise j k (omega (arith, e)) h))

  bound_last : (g : ℕ) → g < groups → σ.bound g ≤ σ.bound (groups - 1)
  bound_last g l =
      by_cases (ℕ_discrete g (groups - 1)) (λ e. let q = ap (λ (x : ℕ). σ.bound x) e in omega arith)
      (λ e. omega (arith, p.bound_rise g (groups - 1) (omega (arith, e)) (omega arith)))

  -- no group starts after the last one, nor after the end of the path
  pub start_last : (g : ℕ) → g < groups → start σ g ≤ start σ (groups - 1)
  start_last g l = path_upto (σ.bound g) (σ.bound (groups - 1)) (bound_last g l) (p.bound_low (groups - 1) (omega arith))

  pub within_top : (i : ℕ) → Within σ groups i (σ.path (depth - 1))
  within_top i g l h = path_upto (σ.bound g) (depth - 1) (omega (arith, p.bound_low g l)) (omega (arith, p.bound_low g l))

  -- merging the last two groups
  pub path_join : 0 < depth → (j : ℕ) → j < start σ (groups - 1) → Line σ height depth (groups - 1)
  path_join h j l =
      record {
        low = p.low;
        rise = p.rise;
        first = p.first;
        none = p.none;
        bound_low = λ g k. p.bound_low g (omega arith);
        bound_rise = λ g i k q. p.bound_rise g i k (omega arith);
        bound_some =
            λ _.
            by_cases (dec_lt 0 (groups - 1)) (λ k. k)
            (λ k.
            let r : groups - 1 ≡ 0 = omega (arith, k) in
            let z : start σ (groups - 1) ≡ 0 = ap (λ (x : ℕ). start σ x) r ∙ ap (λ (x : ℕ). σ.path x) (p.bound_first (p.bound_some h)) ∙ p.first h in
            absurd (omega arith));
        bound_first = λ k. p.bound_first (omega arith);
      }

  -- leaving the end of the path
  pub path_leave : 0 < depth → (σ.bound (groups - 1) ≡ depth - 1 → ⊥) → Line σ height (depth - 1) groups
  path_leave h n =
      let some = p.bound_some h in
      let last = p.bound_low (groups - 1) (omega arith) in
      record {
        low = λ k l. p.low k (omega arith);
        rise = λ j k l q. p.rise j k l (omega arith);
        first = λ _. p.first h;
        none = λ e. absurd (n (omega arith));
        bound_low = λ g l. omega (arith, bound_last g l, n);
        bound_rise = p.bound_rise;
        bound_some = λ _. some;
        bound_first = p.bound_first;
      }

  -- closing the last group
  pub path_close : 0 < depth → σ.bound (groups - 1) ≡ depth - 1 → Line σ (σ.path (depth - 1)) (depth - 1) (groups - 1)
  path_close h e =
      let some = p.bound_some h in
      record {
        low = λ k l. p.rise k (depth - 1) l (omega arith);
        rise = λ j k l q. p.rise j k l (omega arith);
        first = λ _. p.first h;
        none = λ q. ap (λ (x : ℕ). σ.path x) q ∙ p.first h;
        bound_low = λ g l. omega (arith, p.bound_rise g (groups - 1) l (omega arith));
        bound_rise = λ g i k q. p.bound_rise g i k (omega arith);
        bound_some =
            λ l.
            by_cases (dec_lt 0 (groups - 1)) (λ k. k)
            (λ k.
            let r : groups - 1 ≡ 0 = omega (arith, k) in
            let z : σ.bound (groups - 1) ≡ 0 = ap (λ (x : ℕ). σ.bound x) r ∙ p.bound_first some in
            absurd (omega arith));
        bound_first = λ k. p.bound_first some;
      }

-- entering a vertex
module _ {σ : State} (σ' : State) {height depth groups : ℕ} (p : Line σ height depth groups) (x : Put σ.path σ'.path depth height) (y : Put σ.bound σ'.bound groups depth) where
  start_kept : (g : ℕ) → g < groups → start σ' g ≡ start σ g
  start_kept g l =
      ap (λ (k : ℕ). σ'.path k) (y.off g (λ e. omega arith)) ∙ x.off (σ.bound g) (λ e. omega (arith, p.bound_low g l))

  pub start_new : start σ' groups ≡ height
  start_new = ap (λ (k : ℕ). σ'.path k) y.at ∙ x.at

  pub within_old : {i j : ℕ} → Within σ' (groups + 1) i j → Within σ groups i j
  within_old w g l h = omega (arith, start_kept g l, w g (omega arith) (omega (arith, start_kept g l)))

  pub within_new : {i j : ℕ} → i < height → Within σ groups i j → Within σ' (groups + 1) i j
  within_new {i} {j} k w g l h =
      by_cases (ℕ_discrete g groups) (λ e. absurd (omega (arith, start_new, ap (λ (z : ℕ). start σ' z) e)))
      (λ e.
      let l' : g < groups = omega (arith, e) in
      omega (arith, start_kept g l', w g l' (omega (arith, start_kept g l'))))

  pub path_enter : Line σ' (height + 1) (depth + 1) (groups + 1)
  path_enter =
      record {
        low = λ k l. by_cases (ℕ_discrete k depth) (λ e. rw (e, x.at) (omega arith)) (λ e. rw (x.off k e) (omega (arith, p.low k (omega (arith, e)))));
        rise =
            λ j k l h.
            by_cases (ℕ_discrete k depth) (λ e. let z = x.off j (λ q. omega arith) in rw (e, x.at, z) (p.low j (omega arith)))
            (λ e. let z = x.off j (λ q. omega arith) in rw (x.off k e, z) (p.rise j k l (omega (arith, e))));
        first =
            λ _.
            by_cases (ℕ_discrete 0 depth) (λ e. ap (λ (k : ℕ). σ'.path k) e ∙ x.at ∙ p.none (sym e))
            (λ e. x.off 0 e ∙ p.first (omega (arith, e)));
        none = λ e. absurd (omega arith);
        bound_low = λ g l. by_cases (ℕ_discrete g groups) (λ e. rw (e, y.at) (omega arith)) (λ e. rw (y.off g e) (omega (arith, p.bound_low g (omega (arith, e)))));
        bound_rise =
            λ g h l k.
            by_cases (ℕ_discrete h groups) (λ e. let z = y.off g (λ q. omega arith) in rw (e, y.at, z) (p.bound_low g (omega arith)))
            (λ e. let z = y.off g (λ q. omega arith) in rw (y.off h e, z) (p.bound_rise g h l (omega (arith, e))));
        bound_some = λ _. omega arith;
        bound_first =
            λ _.
            by_cases (ℕ_discrete 0 groups)
            (λ e.
            let none : depth ≡ 0 = by_cases (dec_lt 0 depth) (λ l. absurd (omega (arith, p.bound_some l))) (λ l. omega (arith, l)) in
            ap (λ (k : ℕ). σ'.bound k) e ∙ y.at ∙ none)
            (λ e. y.off 0 e ∙ p.bound_first (omega (arith, e)));
      }

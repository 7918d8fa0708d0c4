-- The test of the two columns.
use mathlib.Core.Path.{◌≡◌, ap, ◌∙◌}
use mathlib.Core.Bool.{Bool, true, false, not}
use mathlib.Core.List.{List}
use mathlib.Core.Logic.{by_cases}
use Prim.Native.Nat.{ℕ, ◌+◌, ◌≤◌, ◌<◌}
use native.Mathlib.Omega.{arith}
use native.Mathlib.Decide.{ℕ_discrete}
use borrow.Author.Tests.{not-true, not-false}
use lib.ListN.{length, get_or}
use Rattle.graph.specs.Graph.{vertices, Graph, Tells}

pub tells_no : {P : Type 0} {r : Bool} → r ≡ false → (P → ⊥) → Tells P r
tells_no q h = record { yes = λ e. absurd (let z : ◌≡◌ {A = ℕ} 0 1 = cc in omega arith); no = λ _. h }

pub tells_yes : {P : Type 0} {r : Bool} → r ≡ true → P → Tells P r
tells_yes q p = record { yes = λ _. p; no = λ e. absurd (let z : ◌≡◌ {A = ℕ} 0 1 = cc in omega arith) }

-- after `if !test { .. }`
pub tells_fail : {P : Type 0} {r : Bool} → Tells P r → not r ≡ true → P → ⊥
tells_fail {r = r} t e = t.no (not-true r e)

pub tells_pass : {P : Type 0} {r : Bool} → Tells P r → not r ≡ false → P
tells_pass {r = r} t e = t.yes (not-false r e)

-- one place more
pub rising_more : (first : List ℕ) (v : ℕ) → ((k : ℕ) → k < v → get_or first k 0 ≤ get_or first (k + 1) 0) → get_or first v 0 ≤ get_or first (v + 1) 0 → (k : ℕ)
    → k < v + 1 → get_or first k 0 ≤ get_or first (k + 1) 0
rising_more first v s h k g = by_cases (ℕ_discrete k v) (λ e. rw e h) (λ e. s k (omega (arith, e)))

pub inside_more : (to : List ℕ) (from e n x : ℕ) → ((k : ℕ) → from ≤ k → k < e → get_or to k 0 < n) → x ≡ get_or to e 0 → x < n → (k : ℕ) → from ≤ k → k < e + 1 → get_or to k 0 < n
inside_more to from e n x s q l k f g = by_cases (ℕ_discrete k e) (λ z. rw (z, ← q) l) (λ z. s k f (omega (arith, z)))

-- the parts of the test, put together
pub record Offsets (first to : List ℕ) (n from end : ℕ) : Type 0 where
  pub some : 0 < length first
  pub count : n ≡ vertices first
  pub small : n ≤ 65536
  pub rise : (v : ℕ) → v < n → get_or first v 0 ≤ get_or first (v + 1) 0
  pub from_is : from ≡ get_or first 0 0
  pub end_is : end ≡ get_or first n 0
  pub fits : end ≤ length to

pub tests : {first to : List ℕ} {n from end : ℕ} {r : Bool} → Offsets first to n from end → Tells ((e : ℕ) → from ≤ e → e < end → get_or to e 0 < n) r → Tells (Graph first to) r
tests {first} {to} {n} {from} {end} o t =
    let c = o.count in
    let q : end ≡ get_or first (vertices first) 0 = o.end_is ∙ ap (λ (k : ℕ). get_or first k 0) c in
    record {
      yes =
          λ e.
          record {
            some = o.some;
            small = omega (arith, o.small);
            rise = λ v l. o.rise v (omega arith);
            end = omega (arith, o.fits);
            below = λ k f g. omega (arith, t.yes e k (omega (arith, o.from_is)) (omega arith));
          };
      no = λ e g. t.no e (λ k f l. omega (arith, g.below k (omega (arith, o.from_is)) (omega arith)));
    }

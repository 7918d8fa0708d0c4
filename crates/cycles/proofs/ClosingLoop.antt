-- The loop that closes a group: what is closed up to a place.
use mathlib.Core.Path.{◌≡◌, refl, sym, ap, ◌∙◌}
use mathlib.Core.List.{List}
use mathlib.Core.Logic.{by_cases}
use Prim.Native.Nat.{ℕ, ◌+◌, ◌*◌, ◌-◌, ◌≤◌, ◌<◌}
use native.Mathlib.Omega.{arith}
use native.Mathlib.Decide.{ℕ_discrete}
use lib.ListN.{length, length-set}
use Rattle.cycles.specs.State.{cell, store}
use Rattle.cycles.specs.Step.{Closable, Closed}
use Rattle.cycles.proofs.Cell.{Put, cell_put, cell_same, put_then, then_put}

pub record Closes (s₀ : List ℕ) (from height finished : ℕ) (s : List ℕ) (i : ℕ) : Type 0 where
  pub closable : Closable s₀ from height finished
  pub low : from ≤ i
  pub high : i ≤ height
  pub closed : Closed s₀ s from i finished

pub closes_start : {s : List ℕ} {from height finished : ℕ} → Closable s from height finished → Closes s from height finished s from
closes_start c =
    record {
      closable = c;
      low = omega arith;
      high = c.upto;
      closed =
          record {
            group_in = λ i f l. absurd (omega arith);
            place_in = λ i f l. absurd (omega arith);
            group_out = λ v o. refl;
            place_out = λ v o. refl;
            rest = λ k i f l. refl;
            long = refl;
          };
    }

module _ {s₀ s : List ℕ} {from height finished i : ℕ} (S : Closes s₀ from height finished s i) (l : i < height) {v : ℕ} (q : v ≡ cell s 3 i) where
  is : v ≡ cell s₀ 3 i
  is = q ∙ S.closed.rest 3 i (omega arith) (omega arith)

  pub closes_room : 6 * v + 5 < length s
  closes_room = omega (arith, ap (λ (x : ℕ). 6 * x + 5) is, S.closable.room i S.low l, S.closed.long)

  module _ {s₁ s₂ : List ℕ} (e₁ : s₁ ≡ store s 0 v (finished + 2)) (e₂ : s₂ ≡ store s₁ 1 v (finished + (i - from))) where
    abbrev t₁ : List ℕ
    t₁ = store s 0 v (finished + 2)

    abbrev t₂ : List ℕ
    t₂ = store t₁ 1 v (finished + (i - from))

    same : s₂ ≡ t₂
    same = e₂ ∙ ap (λ (x : List ℕ). store x 1 v (finished + (i - from))) e₁

    g : Put (cell s 0) (cell t₂ 0) v (finished + 2)
    g = put_then (cell_put s 0 v (finished + 2) (omega (arith, closes_room))) (cell_same t₁ 1 v (finished + (i - from)) (omega arith) 0 (omega arith) (λ e. omega arith))

    p : Put (cell s 1) (cell t₂ 1) v (finished + (i - from))
    p =
        then_put (cell_same s 0 v (finished + 2) (omega arith) 1 (omega arith) (λ e. omega arith))
        (cell_put t₁ 1 v (finished + (i - from)) (omega (arith, closes_room, length-set s (6 * v + 0) (finished + 2))))

    -- one that was passed is another
    other : (k : ℕ) → from ≤ k → k < i → cell s₀ 3 k ≡ v → ⊥
    other k f h e = omega (arith, S.closable.once k i f (omega arith) S.low l (e ∙ is))

    closed : Closed s₀ t₂ from (i + 1) finished
    closed =
        let H = S.closed in
        let low = S.low in
        let here = is in
        record {
          group_in =
              λ k f h.
              by_cases (ℕ_discrete k i) (λ e. rw (e, ← here) g.at)
              (λ e. let h' : k < i = omega (arith, e) in g.off (cell s₀ 3 k) (other k f h') ∙ H.group_in k f h');
          place_in =
              λ k f h.
              by_cases (ℕ_discrete k i) (λ e. rw (e, ← here) p.at)
              (λ e. let h' : k < i = omega (arith, e) in p.off (cell s₀ 3 k) (other k f h') ∙ H.place_in k f h');
          group_out = λ u o. g.off u (λ e. o i low (omega arith) (sym (e ∙ here))) ∙ H.group_out u (λ k f h. o k f (omega arith));
          place_out = λ u o. p.off u (λ e. o i low (omega arith) (sym (e ∙ here))) ∙ H.place_out u (λ k f h. o k f (omega arith));
          rest =
              λ k j f h.
              cell_same t₁ 1 v (finished + (i - from)) (omega arith) k h (λ e. omega arith) j
              ∙ cell_same s 0 v (finished + 2) (omega arith) k h (λ e. omega arith) j
              ∙ H.rest k j f h;
          long = length-set t₁ (6 * v + 1) (finished + (i - from)) ∙ length-set s (6 * v + 0) (finished + 2) ∙ H.long;
        }

    pub closes_step : Closes s₀ from height finished s₂ (i + 1)
    closes_step = record { closable = S.closable; low = omega (arith, S.low); high = omega arith; closed = rw same closed }

pub closes_end : {s₀ s : List ℕ} {from height finished i : ℕ} → Closes s₀ from height finished s i → height ≤ i → Closed s₀ s from height finished
closes_end {height = height} {i = i} S l = let q : i ≡ height = omega (arith, S.high) in rw q at S.closed

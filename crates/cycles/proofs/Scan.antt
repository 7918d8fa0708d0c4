-- After the search: the first vertex with an arc into its own group, each vertex at its place, each group put down.
use mathlib.Core.Path.{◌≡◌, refl, sym, ap, ◌∙◌}
use mathlib.Core.List.{List}
use mathlib.Core.Logic.{by_cases}
use Prim.Native.Nat.{ℕ, ◌+◌, ◌-◌, ◌≤◌, ◌<◌}
use native.Mathlib.Omega.{arith}
use native.Mathlib.Decide.{ℕ_discrete}
use lib.ListN.{length, get_or, set}
use Rattle.graph.specs.Graph.{vertices}
use Rattle.graph.proofs.Store.{put}
use Rattle.group_rows.specs.Rows as rows
use Rattle.group_rows.specs.Rows.{Grouped, Arrangeable, Arranged}
use Rattle.cycles.specs.State.{cell, state}
use Rattle.cycles.specs.Search.{Ready}
use Rattle.cycles.specs.Answer.{Inner, Placed, Ordered, Numbered}

-- ---- a vertex with an arc into its own group, by its row and by the state
module _ {first to s : List ℕ} {v : ℕ} where
  pub grouped : Ready first to s → v < vertices first → Grouped first to s v
  grouped r l = record { graph = r.graph; low = l; room = omega (arith, r.room) }

  pub by_state : rows.Inner first to s v → Inner first to (state s) v
  by_state i = record { place = i.place; from = i.from; upto = i.upto; same = i.same }

  pub by_row : Inner first to (state s) v → rows.Inner first to s v
  by_row i = record { place = i.place; from = i.from; upto = i.upto; same = i.same }

-- ---- each vertex at its place

-- places that are an order, and the order
pub arrangeable : {first to s : List ℕ} (order : List ℕ) → Ready first to s → Placed first to (state s) → length order ≡ vertices first → Arrangeable order s (vertices first)
arrangeable order r p h =
    record { small = r.graph.small; order_room = omega arith; scratch_room = omega (arith, r.room); low = p.low; once = p.once }

pub ordered : {first to s order : List ℕ} → Placed first to (state s) → Arranged s order (vertices first) → Ordered first to order
ordered {first} {to} {s} {order} p a =
    -- the vertex at a place
    let is : (k : ℕ) (l : k < vertices first) → get_or order k 0 ≡ (p.all k l).0 =
    λ k l. let y = p.all k l in ap (λ (z : ℕ). get_or order z 0) (sym y.2) ∙ a.is y.0 y.1 in
    let back : (k : ℕ) → k < vertices first → cell s 1 (get_or order k 0) ≡ k =
    λ k l. ap (cell s 1) (is k l) ∙ (p.all k l).2 in
    record {
      low = λ k l. omega (arith, is k l, (p.all k l).1);
      all = λ v l. (cell s 1 v, p.low v l, a.is v l);
      once = λ j k l h e. sym (back j l) ∙ ap (cell s 1) e ∙ back k h;
      after = λ j k l h e. omega (arith, back j l, back k h, p.after (get_or order j 0) (get_or order k 0) e);
    }

-- ---- the group of each vertex
pub record Numbering (group₀ s : List ℕ) (n : ℕ) (group : List ℕ) (v : ℕ) : Type 0 where
  pub numbered : Numbered group₀ s n
  pub within : v ≤ n
  pub long : length group ≡ length group₀
  pub is : (u : ℕ) → u < v → get_or group u 0 ≡ cell s 0 u - 2

pub numbering_start : {group s : List ℕ} {n : ℕ} → Numbered group s n → Numbering group s n group 0
numbering_start a = record { numbered = a; within = omega arith; long = refl; is = λ u l. absurd (omega arith) }

pub numbering_step : {group₀ s group : List ℕ} {n v g : ℕ} → Numbering group₀ s n group v → v < n → g ≡ cell s 0 v - 2 → Numbering group₀ s n (set group v g) (v + 1)
numbering_step {group = group} {v = v} {g = g} N l q =
    let o = put group v g (omega (arith, N.numbered.group_room, N.long)) in
    record {
      numbered = N.numbered;
      within = omega arith;
      long = o.long ∙ N.long;
      is = λ u h. by_cases (ℕ_discrete u v) (λ e. rw e (o.at ∙ q)) (λ e. o.off u e ∙ N.is u (omega (arith, e)));
    }

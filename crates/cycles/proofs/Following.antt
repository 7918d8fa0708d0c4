-- The choice of a step: what is read is there, and what was read means the step.
use mathlib.Core.Path.{◌≡◌, refl, sym, ap, subst, ◌∙◌}
use mathlib.Core.List.{List}
use mathlib.Core.Logic.{inl, inr, by_cases}
use Prim.Native.Nat.{ℕ, zero, suc, ◌+◌, ◌-◌, ◌≤◌, ◌<◌}
use native.Mathlib.Omega.{arith}
use native.Mathlib.Decide.{dec_lt}
use lib.ListN.{length, get_or}
use Rattle.graph.specs.Graph.{vertices, Arc}
use Rattle.graph.proofs.Nonzero.{nonzero_le}
use Rattle.graph.proofs.Arcs.{arc_place, arc_below}
use Rattle.cycles.specs.State.{State, state, needed}
use Rattle.cycles.specs.Search.{start, Search}
use Rattle.cycles.specs.Step.{top, Settles, ToLeave, ToClose, Followable, Followed, Chosen}
use Rattle.cycles.specs.declared.Step.{Step}
use Rattle.cycles.specs.declared.Step.TheVariants.{Done, Skip, Enter, Join, Pass, Leave, Close}

-- arc e is the next one of v, the end of the path
pub record Next (first : List ℕ) (σ : State) (depth v e : ℕ) : Type 0 where
  pub some : 0 < depth
  pub vertex : v ≡ top σ depth
  pub arc : e ≡ σ.next_arc v
  pub more : e < get_or first (v + 1) 0

-- an element of a rising list is no smaller than its index
at_least : (l : ℕ → ℕ) (n : ℕ) → ((j k : ℕ) → j < k → k < n → l j < l k) → (k : ℕ) → k < n → k ≤ l k
at_least l n rise zero h = omega arith
at_least l n rise (suc k) h = omega (arith, at_least l n rise k (omega arith), rise k (suc k) (omega arith) h)

module _ {first to : List ℕ} {σ : State} {n root height depth groups finished : ℕ} (S : Search first to σ n root height depth groups finished) where
  pub small : n ≤ 65536
  small = omega (arith, S.count, S.graph.small)

  pub open_count : height + finished ≤ n
  open_count = omega (arith, S.counted, nonzero_le σ.group n)

  pub path_count : depth ≤ height
  path_count =
      by_cases (dec_lt 0 depth) (λ h. omega (arith, at_least σ.path depth S.line.rise (depth - 1) (omega arith), S.line.low (depth - 1) (omega arith)))
      (λ h. omega (arith, h))

  pub bound_count : groups ≤ depth
  bound_count =
      by_cases (dec_lt 0 groups) (λ h. omega (arith, at_least σ.bound groups S.line.bound_rise (groups - 1) (omega arith), S.line.bound_low (groups - 1) (omega arith)))
      (λ h. omega (arith, h))

  module _ (some : 0 < depth) where
    pub end_place : σ.path (depth - 1) < height
    end_place = S.line.low (depth - 1) (omega arith)

    pub top_low : top σ depth < n
    top_low = S.opened.low (σ.path (depth - 1)) end_place

    pub bound_place : σ.bound (groups - 1) < depth
    bound_place = S.line.bound_low (groups - 1) (omega (arith, S.line.bound_some some))

  next_low : {v e : ℕ} → Next first σ depth v e → get_or first v 0 ≤ e
  next_low {v} {e} t =
      let q = t.vertex in
      let low : get_or first v 0 ≤ σ.next_arc v = rw q (S.passed.low (σ.path (depth - 1)) (end_place t.some)) in
      omega (arith, t.arc)

  its_arc : {v e : ℕ} → Next first σ depth v e → Arc first to v (get_or to e 0)
  its_arc {v} {e} t = record { place = e; from = next_low t; upto = t.more; target = refl }

  -- v is a vertex, and so is the target of its arc
  next_vertex : {v e : ℕ} → Next first σ depth v e → v < vertices first
  next_vertex t = omega (arith, S.count, t.vertex, top_low t.some)

  pub next_place : {v e : ℕ} → Next first σ depth v e → e < length to
  next_place {v} {e} t = arc_place S.graph v e (next_vertex t) t.more

  pub next_target : {v e : ℕ} → Next first σ depth v e → get_or to e 0 < n
  next_target {v} {e} t = omega (arith, S.count, arc_below S.graph v e (next_vertex t) (next_low t) t.more)

  pub followed : {v e : ℕ} → Next first σ depth v e → (r : Step) → Followed to σ groups v e r → Chosen first to σ root depth groups r
  followed {v} {e} t (Enter w) f =
      let a = its_arc t in
      let q = t.vertex in
      let lv : v < vertices first = omega (arith, S.count, q, top_low t.some) in
      record {
        low = omega (arith, f.0, arc_below S.graph v e lv (next_low t) t.more);
        new = f.1;
        arc = λ _. rw (← q, f.0) a;
      }
  followed {v} {e} t Join f =
      let q = t.vertex in
      record { some = t.some; target = get_or to e 0; arc = rw (← q) (its_arc t); opened = f.0; back = f.1 }
  followed {v} {e} t (Pass u g) f =
      let q = f.0 in
      let z : σ.next_arc u ≡ e = ap (λ (x : ℕ). σ.next_arc x) q ∙ sym t.arc in
      record {
        some = t.some;
        vertex = q ∙ t.vertex;
        more = rw (z, q) t.more;
        next = rw z f.1;
        there = rw z f.2;
      }
  followed t Done f = absurd f
  followed t Skip f = absurd f
  followed t Leave f = absurd f
  followed t (Close from) f = absurd f

pub followable :
    {first to s : List ℕ} {n root height depth groups finished v e : ℕ} → Search first to (state s) n root height depth groups finished → length s ≡ needed n
    → Next first (state s) depth v e → Followable to s groups e
followable {first} {to} {s} {n} {groups = groups} S room t =
    let some = S.line.bound_some t.some in
    record {
      arc_low = next_place S t;
      target_low = omega (arith, next_target S t, room);
      some = some;
      bound_low = omega (arith, bound_count S, path_count S, open_count S, room);
      path_low = omega (arith, bound_place S t.some, path_count S, open_count S, room);
    }

-- what is read of an arc
module _ (to : List ℕ) (σ : State) (groups e w last : ℕ) (q : w ≡ get_or to e 0) where
  pub follows_join : last ≡ σ.bound (groups - 1) → σ.group w ≡ 1 → σ.place w < σ.path last → (σ.group (get_or to e 0) ≡ 1) × (σ.place (get_or to e 0) < start σ (groups - 1))
  follows_join r h k = subst (λ (x : ℕ). (σ.group x ≡ 1) × (σ.place x < start σ (groups - 1))) q (h, subst (λ (y : ℕ). σ.place w < σ.path y) r k)

  pub follows_closed : (σ.group w ≡ 0 → ⊥) → (σ.group w ≡ 1 → ⊥) → Settles σ groups (get_or to e 0)
  follows_closed h k = inl (rw (← q) (omega (arith, h, k)))

  pub follows_open : last ≡ σ.bound (groups - 1) → σ.group w ≡ 1 → σ.path last ≤ σ.place w → Settles σ groups (get_or to e 0)
  follows_open r h k = inr (subst (λ (x : ℕ). (σ.group x ≡ 1) × (start σ (groups - 1) ≤ σ.place x)) q (h, subst (λ (y : ℕ). σ.path y ≤ σ.place w) r k))

-- what is read at the end of the path
module _ {first to : List ℕ} {σ : State} {n root height depth groups finished : ℕ} (S : Search first to σ n root height depth groups finished)
    (h : depth ≡ 0 → ⊥) {p : ℕ} (q : p ≡ σ.path (depth - 1)) where
  some : 0 < depth
  some = omega (arith, h)

  pub read_place : p < height
  read_place = omega (arith, q, end_place S some)

  module _ {v : ℕ} (r : v ≡ σ.stack p) where
    is_top : v ≡ top σ depth
    is_top = r ∙ ap (λ (k : ℕ). σ.stack k) q

    pub read_vertex : v < n
    read_vertex = omega (arith, is_top, top_low S some)

    pub read_next : {e : ℕ} → e ≡ σ.next_arc v → e < get_or first (v + 1) 0 → Next first σ depth v e
    read_next a l = record { some = some; vertex = is_top; arc = a; more = l }

    spent : get_or first (v + 1) 0 ≤ σ.next_arc v → get_or first (top σ depth + 1) 0 ≤ σ.next_arc (top σ depth)
    spent l = let z = is_top in rw (← z) l

    pub read_leave : get_or first (v + 1) 0 ≤ σ.next_arc v → {k : ℕ} → k ≡ σ.bound (groups - 1) → (k ≡ depth - 1 → ⊥) → ToLeave first σ depth groups
    read_leave l e n = record { some = some; spent = spent l; inside = λ z. n (e ∙ z) }

    pub read_close : get_or first (v + 1) 0 ≤ σ.next_arc v → {k : ℕ} → k ≡ σ.bound (groups - 1) → k ≡ depth - 1 → ToClose first σ depth groups p
    read_close l e z = record { some = some; spent = spent l; starts = sym e ∙ z; place = q }

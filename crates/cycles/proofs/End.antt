-- The search at its start and at its end, and what components say of cycles and orders.
use mathlib.Core.Path.{◌≡◌, refl, ap}
use mathlib.Core.List.{List}
use mathlib.Core.Logic.{by_cases}
use Prim.Native.Nat.{ℕ, ◌-◌, ◌≤◌, ◌<◌}
use native.Mathlib.Omega.{arith}
use native.Mathlib.Decide.{ℕ_discrete, dec_lt}
use lib.ListN.{get_or}
use Rattle.std.specs.Prelude.{Option, Some, None}
use Rattle.relations.specs.Reach.{Reaches, direct, onward}
use Rattle.graph.specs.Graph.{vertices, Graph, Arc, OnCycle}
use Rattle.graph.proofs.Nonzero.{nonzero_none, nonzero_all}
use Rattle.graph.proofs.Arcs.{arc_source, arc_target, reaches_source}
use Rattle.cycles.specs.State.{State}
use Rattle.cycles.specs.Component.{Leads, stays, goes, Finished}
use Rattle.cycles.specs.Search.{Search}
use Rattle.cycles.specs.Step.{ToStop}
use Rattle.cycles.specs.Answer.{Inner, Smallest, Found, Placed, Groups}
use Rattle.cycles.proofs.Keep.{reaches_leads}

pub search_start : {first to : List ℕ} {σ : State} {n : ℕ} → Graph first to → n ≡ vertices first → ((k : ℕ) → σ.group k ≡ 0) → Search first to σ n 0 0 0 0 0
search_start {σ = σ} {n = n} g q z =
    record {
      graph = g;
      count = q;
      counted = nonzero_none σ.group n z;
      root_low = omega arith;
      roots = λ v l. absurd (omega arith);
      opened =
          record {
            low = λ i l. absurd (omega arith);
            mark = λ i l. absurd (omega arith);
            back = λ i l. absurd (omega arith);
            found = λ v l h. absurd (omega (arith, z v));
            is = λ v l h. absurd (omega (arith, z v));
          };
      line =
          record {
            low = λ k l. absurd (omega arith);
            rise = λ j k l h. absurd (omega arith);
            first = λ h. absurd (omega arith);
            none = λ _. refl;
            bound_low = λ k l. absurd (omega arith);
            bound_rise = λ j k l h. absurd (omega arith);
            bound_some = λ h. absurd (omega arith);
            bound_first = λ h. absurd (omega arith);
          };
      passed =
          record {
            low = λ i l. absurd (omega arith);
            high = λ i l. absurd (omega arith);
            settled = λ i e l. absurd (omega arith);
            spent = λ i l. absurd (omega arith);
          };
      leads = λ i j l. absurd (omega arith);
      components =
          record {
            place_low = λ v l h. absurd (omega (arith, z v));
            starts = λ v l h. absurd (omega (arith, z v));
            ranges = λ v w l i h. absurd (omega (arith, z v));
            once = λ v w l i h. absurd (omega (arith, z v));
            all = λ k l. absurd (omega arith);
            falls = λ v w l h. absurd (omega (arith, z v));
            leads = λ v w l i h. absurd (omega (arith, z v));
          };
    }

pub search_end :
    {first to : List ℕ} {σ : State} {root height depth groups finished : ℕ} → Search first to σ (vertices first) root height depth groups finished → ToStop first root depth
    → Finished first to σ
search_end {first} {to} {σ} {root} {height} {finished = finished} S t =
    let n = vertices first in
    let none : height ≡ 0 = S.line.none t.none in
    let seen : (v : ℕ) → v < vertices first → 0 < σ.group v = λ v l. S.roots v (omega (arith, t.last)) in
    let q : finished ≡ vertices first = omega (arith, S.counted, nonzero_all σ.group (vertices first) seen) in
    record {
      components = rw q at S.components;
      closed =
          λ v l.
          by_cases (ℕ_discrete (σ.group v) 1) (λ h. absurd (omega (arith, S.opened.found v l h)))
          (λ h. omega (arith, seen v l));
    }

module _ {first to : List ℕ} {σ : State} (g : Graph first to) (G : Finished first to σ) where
  arc_falls : {v w : ℕ} → Arc first to v w → σ.group w ≤ σ.group v
  arc_falls {v} {w} a = let l : v < vertices first = omega (arith, arc_source a) in (G.components.falls v w l (G.closed v l) a).1

  reaches_falls : {v w : ℕ} → Reaches (Arc first to) v w → σ.group w ≤ σ.group v
  reaches_falls (direct a) = arc_falls a
  reaches_falls (onward a r) = let h = arc_falls a in let k = reaches_falls r in omega arith

  -- a vertex lies on a cycle exactly if it has an arc into its own group
  pub inner_cycle : {v : ℕ} → Inner first to σ v → OnCycle first to v
  inner_cycle {v} i =
      let w = get_or to i.place 0 in
      let a : Arc first to v w = record { place = i.place; from = i.from; upto = i.upto; target = refl } in
      let lv : v < vertices first = omega (arith, arc_source a) in
      let lw : w < vertices first = omega (arith, arc_target g a) in
      reaches_leads (direct a) (G.components.leads w v lw lv (G.closed w lw) (G.closed v lv) i.same)

  arc_inner : {v w : ℕ} → Arc first to v w → σ.group v ≤ σ.group w → Inner first to σ v
  arc_inner {v} {w} a h =
      let t = a.target in
      record { place = a.place; from = a.from; upto = a.upto; same = rw t (omega (arith, arc_falls a)) }

  pub cycle_inner : {v : ℕ} → OnCycle first to v → Inner first to σ v
  cycle_inner (direct a) = arc_inner a (omega arith)
  cycle_inner (onward a r) = arc_inner a (reaches_falls r)

  pub found : (r : Option ℕ) → Smallest (Inner first to σ) (vertices first) r → Found first to r
  found (Some v) s = record { low = s.low; on = inner_cycle s.has; before = λ u k c. s.before u k (cycle_inner c) }
  found None s = λ v c. s v (reaches_source c) (cycle_inner c)

  pub placed : Smallest (Inner first to σ) (vertices first) None → Placed first to σ
  placed s =
      let C = G.components in
      record {
        low = λ v h. C.place_low v h (G.closed v h);
        once = λ v w h i e. C.once v w h i (G.closed v h) (G.closed w i) e;
        all = λ k h. let y = C.all k h in (y.0, y.1, y.3);
        after =
            λ v w a.
            let k : v < vertices first = omega (arith, arc_source a) in
            let o : w < vertices first = omega (arith, arc_target g a) in
            let h : σ.group w < σ.group v =
            by_cases (dec_lt (σ.group w) (σ.group v)) (λ z. z) (λ z. absurd (s v k (arc_inner a (omega (arith, z))))) in
            omega (arith, C.ranges v w k o (G.closed v k) (G.closed w o) h, C.starts v k (G.closed v k));
      }

  -- ---- the groups, each number less 2
  leads_falls : {v w : ℕ} → Leads (Arc first to) v w → σ.group w ≤ σ.group v
  leads_falls (stays q) = let e = ap σ.group q in omega arith
  leads_falls (goes r) = reaches_falls r

  pub groups_are : {column : List ℕ} → ((v : ℕ) → v < vertices first → get_or column v 0 ≡ σ.group v - 2) → Groups first to column
  groups_are {column} is =
      let C = G.components in
      record {
        low = λ v h. let k = G.closed v h in omega (arith, is v h, k, C.starts v h k, C.place_low v h k);
        same =
            λ v w h i e.
            let k = G.closed v h in
            let o = G.closed w i in
            let q : σ.group v ≡ σ.group w = omega (arith, is v h, is w i, k, o, e) in
            C.leads v w h i k o q;
        mutual_same = λ v w h i a b. omega (arith, is v h, is w i, leads_falls a, leads_falls b);
        falls =
            λ v w a.
            let h : v < vertices first = omega (arith, arc_source a) in
            let i : w < vertices first = omega (arith, arc_target g a) in
            omega (arith, is v h, is w i, arc_falls a);
      }

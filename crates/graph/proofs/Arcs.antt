-- An arc starts at a vertex, stands in the column of targets, and leads to a vertex.
use mathlib.Core.Path.{◌≡◌}
use mathlib.Core.List.{List}
use mathlib.Core.Logic.{by_cases}
use Prim.Native.Nat.{ℕ, zero, suc, ◌+◌, ◌-◌, ◌≤◌, ◌<◌}
use native.Mathlib.Omega.{arith}
use native.Mathlib.Decide.{dec_lt}
use native.Mathlib.Nat.{add-zero}
use lib.ListN.{length, get_or, get_or-eq_default}
use Rattle.relations.specs.Reach.{Reaches, direct, onward}
use Rattle.graph.specs.Graph.{vertices, Graph, Arc}

-- the offsets never fall
rise_to : {first to : List ℕ} → Graph first to → (v k : ℕ) → v + k ≤ vertices first → get_or first v 0 ≤ get_or first (v + k) 0
rise_to g v zero l = rw add-zero (omega arith)
rise_to {first} g v (suc k) l =
    let q : v + suc k ≡ v + k + 1 = omega arith in
    rw q (omega (arith, rise_to g v k (omega arith), g.rise (v + k) (omega arith)))

pub rising : {first to : List ℕ} → Graph first to → (v w : ℕ) → v ≤ w → w ≤ vertices first → get_or first v 0 ≤ get_or first w 0
rising {first} g v w l h =
    let q : v + (w - v) ≡ w = omega arith in
    let r : get_or first v 0 ≤ get_or first (v + (w - v)) 0 = rise_to g v (w - v) (omega arith) in rw q at r

pub arc_source : {first to : List ℕ} {v w : ℕ} → Arc first to v w → v < vertices first
arc_source {first} {to} {v} e =
    by_cases (dec_lt (v + 1) (length first)) (λ l. omega (arith, l))
    (λ l. absurd (omega (arith, e.upto, get_or-eq_default first 0 {n = v + 1} (omega (arith, l)))))

-- the arcs of a vertex stand in the column, and lead to vertices
pub arc_place : {first to : List ℕ} → Graph first to → (v e : ℕ) → v < vertices first → e < get_or first (v + 1) 0 → e < length to
arc_place {first} g v e l h = omega (arith, rising g (v + 1) (vertices first) (omega arith) (omega arith), g.end)

pub arc_below : {first to : List ℕ} → Graph first to → (v e : ℕ) → v < vertices first → get_or first v 0 ≤ e → e < get_or first (v + 1) 0 → get_or to e 0 < vertices first
arc_below {first} g v e l h k =
    g.below e (omega (arith, rising g 0 v (omega arith) (omega arith))) (omega (arith, rising g (v + 1) (vertices first) (omega arith) (omega arith)))

pub arc_target : {first to : List ℕ} {v w : ℕ} → Graph first to → Arc first to v w → w < vertices first
arc_target {v = v} g e = let l = arc_below g v e.place (arc_source e) e.from e.upto in omega (arith, l, e.target)

pub reaches_source : {first to : List ℕ} {v w : ℕ} → Reaches (Arc first to) v w → v < vertices first
reaches_source (direct e) = arc_source e
reaches_source (onward e r) = arc_source e

pub reaches_target : {first to : List ℕ} {v w : ℕ} → Graph first to → Reaches (Arc first to) v w → w < vertices first
reaches_target g (direct e) = arc_target g e
reaches_target g (onward e r) = reaches_target g r

-- What the loop over the declarations leaves: the graph of the file.
use mathlib.Core.Path.{◌≡◌, sym, ap, ◌∙◌}
use mathlib.Core.Logic.{by_cases}
use mathlib.Core.List.Memᴰ
use mathlib.Core.List.{List, ◌++◌, append_assoc, Memᴰ}
use Prim.Native.Nat.{ℕ, ◌+◌, ◌-◌, ◌≤◌, ◌<◌}
use native.Mathlib.Omega.{arith}
use native.Mathlib.Decide.{ℕ_discrete}
use lib.ListN.{length, get_or, set, take, length-set, length-append, get_or-append}
use lib.Seq.{length-take-le, get_or-append-add}
use Rattle.relations.specs.Select.{span}
use Rattle.relations.proofs.Select.{span_mem, mem_span}
use Rattle.graph.specs.Graph.{vertices, Graph}
use Rattle.graph.proofs.Arcs.{arc_source}
use Rattle.express.specs.Syntax.Tree.{Table}
use Rattle.scopes.specs.Range.{vertex_count, range_start}
use Rattle.scopes.proofs.Ranges.{range_next, range_rises}
use Rattle.dependencies.specs.Target.{Targets, behind_all, led_to, led_to_from}
use Rattle.dependencies.specs.Graph.{Building, Names, GraphOf}
use Rattle.dependencies.proofs.Places.{at_mem, mem_at}
use Rattle.dependencies.proofs.LedTo.{led_made, made_led, from_parts, from_shorter}
use Rattle.dependencies.proofs.Storing.{before_all, arcs_low, offset_stored}

-- a range starts before the end of all
start_within : (t : Table) (v : ℕ) → v ≤ vertex_count t → range_start t v ≤ behind_all t
start_within t v l =
    by_cases (ℕ_discrete v (vertex_count t)) (λ e. let z = ap (range_start t) e in omega arith)
    (λ e. let h : v < vertex_count t = omega (arith, e) in omega (arith, range_rises t v h, before_all t v h))

module _ {t : Table} {target : ℕ → ℕ} {was : List ℕ} {first : List ℕ} {arcs : ℕ} {to : List ℕ} (T : Targets t target) (B : Building t target was 0 first arcs to)
    {x : ℕ} {first' : List ℕ} (n : arcs < 4294967296 → x ≡ arcs) (s : first' ≡ set first 0 x) where
  abbrev from : ℕ → List ℕ
  from i = led_to_from t target i

  abbrev offset : ℕ → ℕ
  offset i = length was - length (from i)

  long : length first' ≡ vertex_count t + 1
  long = ap length s ∙ length-set first 0 x ∙ B.room.offsets_are

  count : vertices first' ≡ vertex_count t
  count = omega (arith, long)

  offset_at : (v : ℕ) → v ≤ vertex_count t → get_or first' v 0 ≡ offset (range_start t v)
  offset_at v l = offset_stored B n s v (omega arith) l

  all_fits : arcs + length (from 0) ≡ length was
  all_fits = B.storing.fits

  front_long : length (take arcs was) ≡ arcs
  front_long = length-take-le arcs was (arcs_low B)

  to_long : length to ≡ length was
  to_long = ap length B.storing.is ∙ length-append (take arcs was) (from 0) ∙ omega (arith, front_long, all_fits)

  shorter : (i j : ℕ) → i ≤ j → j ≤ behind_all t → length (from j) ≤ length (from i)
  shorter i j h l = from_shorter target (behind_all t) i j h l

  -- what the nodes from i on lead to stands from its offset on
  stands : (i k : ℕ) → i ≤ behind_all t → get_or to (offset i + k) 0 ≡ get_or (from i) k 0
  stands i k l = at (led_to target (span 0 (i - 0))) (from_parts target (behind_all t) 0 i (omega arith) l)
    where
      at : (before : List ℕ) → from 0 ≡ before ++ from i → get_or to (offset i + k) 0 ≡ get_or (from i) k 0
      at before e =
          let a = length-append before (from i) in
          let b = ap length e in
          let c = length-append (take arcs was) before in
          let f = all_fits in
          let g = front_long in
          let q : offset i + k ≡ length (take arcs was ++ before) + k = omega arith in
          let u : to ≡ (take arcs was ++ before) ++ from i =
          B.storing.is ∙ ap (λ (r : List ℕ). take arcs was ++ r) e ∙ sym (append_assoc (take arcs was) before (from i)) in
          ap (λ (r : List ℕ). get_or r (offset i + k) 0) u ∙ ap (λ (j : ℕ). get_or ((take arcs was ++ before) ++ from i) j 0) q ∙ get_or-append-add (take arcs was ++ before) (from i) k 0

  graph : Graph first' to
  graph = record {
    some = omega (arith, long);
    small = omega (arith, count, B.room.few);
    rise = λ v l.
        let h : v < vertex_count t = omega (arith, count) in
        let a = offset_at v (omega arith) in
        let b = offset_at (v + 1) (omega arith) in
        let c = shorter (range_start t v) (range_start t (v + 1)) (omega (arith, range_next t v, range_rises t v h)) (start_within t (v + 1) (omega arith)) in
        omega arith;
    end = let a = offset_at (vertices first') (omega (arith, count)) in omega (arith, to_long);
    below = λ e l h.
        let a = offset_at 0 (omega arith) in
        let b = offset_at (vertices first') (omega (arith, count)) in
        let z = all_fits in
        let k = e - offset 0 in
        let q : e ≡ offset 0 + k = omega arith in
        let m = at_mem (from 0) k (omega arith) in
        let M = led_made target (span 0 (behind_all t - 0)) (get_or (from 0) k 0) m in
        let c = ap (λ (j : ℕ). get_or to j 0) q ∙ stands 0 k (omega arith) in
        omega (arith, c, M.target_is, T.below M.node, count);
  }

  module _ (v : ℕ) (l : v < vertex_count t) where
    abbrev own : List ℕ
    own = led_to target (span (range_start t v) (range_start t (v + 1) - range_start t v))

    rises : range_start t v ≤ range_start t (v + 1)
    rises = omega (arith, range_next t v, range_rises t v l)

    parts : from (range_start t v) ≡ own ++ from (range_start t (v + 1))
    parts = from_parts target (behind_all t) (range_start t v) (range_start t (v + 1)) rises (start_within t (v + 1) (omega arith))

    starts_at : get_or first' v 0 ≡ offset (range_start t v)
    starts_at = offset_at v (omega arith)

    -- so many arcs
    ends_at : get_or first' (v + 1) 0 ≡ offset (range_start t v) + length own
    ends_at =
        let a = offset_at (v + 1) (omega arith) in
        let b = ap length parts in
        let c = length-append own (from (range_start t (v + 1))) in
        let d = shorter 0 (range_start t v) (omega arith) (start_within t v (omega arith)) in
        omega (arith, all_fits)

    own_at : (k : ℕ) → k < length own → get_or to (offset (range_start t v) + k) 0 ≡ get_or own k 0
    own_at k h =
        stands (range_start t v) k (start_within t v (omega arith))
        ∙ ap (λ (r : List ℕ). get_or r k 0) parts
        ∙ get_or-append own (from (range_start t (v + 1))) 0 k h

    named : (w : ℕ) → Memᴰ w own → Names t target v w
    named w m =
        let M = led_made target (span (range_start t v) (range_start t (v + 1) - range_start t v)) w m in
        let r = span_mem (range_start t v) (range_start t (v + 1) - range_start t v) M.node M.among in
        record { node = M.node; source = l; from = r.0; upto = omega (arith, r.1, rises, range_next t v); target_is = M.target_is }

    names : (w : ℕ) → Names t target v w → Memᴰ w own
    names w N =
        made_led target (span (range_start t v) (range_start t (v + 1) - range_start t v)) w
        (record {
          node = N.node;
          among = mem_span (range_start t v) (range_start t (v + 1) - range_start t v) N.node N.from (omega (arith, N.upto, rises, range_next t v));
          target_is = N.target_is;
        })

  -- THE END of the loop
  pub building_ends : GraphOf t target first' to
  building_ends = record {
    long = long;
    graph = graph;
    arc_iff = λ v w. (
      λ A.
          let l : v < vertex_count t = omega (arith, arc_source A, count) in
          let k = A.place - offset (range_start t v) in
          let a = starts_at v l in
          let b = ends_at v l in
          let f = A.from in
          let u = A.upto in
          let h : k < length (own v l) = omega arith in
          let q : A.place ≡ offset (range_start t v) + k = omega arith in
          let e : w ≡ get_or (own v l) k 0 = sym A.target ∙ ap (λ (j : ℕ). get_or to j 0) q ∙ own_at v l k h in
          named v l w (Memᴰ.cast e (at_mem (own v l) k h)),
      λ N.
          let l = N.source in
          let A = mem_at (own v l) w (names v l w N) in
          let a = starts_at v l in
          let b = ends_at v l in
          record { place = offset (range_start t v) + A.place; from = omega arith; upto = omega (arith, A.below); target = own_at v l A.place A.below ∙ A.is },
    );
  }

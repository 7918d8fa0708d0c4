-- Storing arcs, for the loops over nodes and over declarations: one law for each step.
use mathlib.Core.Path.{◌≡◌, refl, sym, ap, ◌∙◌}
use mathlib.Core.Bool.{Bool, true, false, cond}
use mathlib.Core.List.{List, ◌∷◌, ◌++◌, append-nil}
use Prim.Native.Nat.{ℕ, suc, ◌+◌, ◌-◌, ◌≤◌, ◌<◌}
use native.Mathlib.Omega.{arith}
use native.Mathlib.Decide.{ℕ_discrete}
use mathlib.Core.Logic.{by_cases}
use borrow.Author.Tests.{eqb-true, ne_eqb}
use lib.Dec.{eqb}
use lib.ListN.{length, get_or, set, take, length-set}
use lib.Seq.{take-suc, take-length, append_snoc, set_at, length-take-le, get_or-set_same, get_or-set_other}
use Rattle.express.specs.Syntax.Tree.{Table}
use Rattle.scopes.specs.Range.{vertex_count, node_of, range_start}
use Rattle.scopes.proofs.Ranges.{node_declares, nodes_rise, range_next}
use Rattle.dependencies.specs.Target.{Targets, behind_all, led_to_from}
use Rattle.dependencies.specs.Graph.{Added, Room, Storing, Building}
use Rattle.dependencies.proofs.LedTo.{from_step, from_none, from_end, from_shorter}

-- what is at the end of a column's front changes with one store
store_last : (was : List ℕ) (k y : ℕ) (l : List ℕ) → k < length was → set (take (suc k) was ++ l) k y ≡ take k was ++ (y ∷ l)
store_last was k y l h =
    rw (take-suc was k 0 h, append_snoc (take k was) (get_or was k 0) l) (set_at (take k was) (get_or was k 0) l y k (length-take-le k was (omega arith)))

-- a declaration stands before the end of all
pub before_all : (t : Table) (v : ℕ) → v < vertex_count t → node_of t v < behind_all t
before_all t v l =
    let n = vertex_count t - 1 in
    let q : vertex_count t ≡ n + 1 = omega arith in
    let s : behind_all t ≡ node_of t n + 1 = ap (range_start t) q ∙ range_next t n in
    by_cases (ℕ_discrete v n) (λ e. let z = ap (node_of t) e in omega arith) (λ e. let z = nodes_rise t v n (omega (arith, e)) (omega arith) in omega arith)

module _ {t : Table} {target : ℕ → ℕ} where
  -- ---- the loop over the nodes of a declaration, from the last to the first

  module _ {was : List ℕ} {j arcs : ℕ} {to : List ℕ} (S : Storing t target was j arcs to) (v : ℕ) (l : v < vertex_count t) (some : 0 < j) (upto : j ≤ node_of t v) where
    low : j - 1 < behind_all t
    low = omega (arith, before_all t v l)

    back : j - 1 + 1 ≡ j
    back = omega arith

    -- a node without an arc
    pub storing_passes : target (j - 1) ≡ 0 → Storing t target was (j - 1) arcs to
    storing_passes e =
        let q : led_to_from t target (j - 1) ≡ led_to_from t target j = from_none target (behind_all t) (j - 1) low e ∙ ap (led_to_from t target) back in
        record { room = S.room; fits = rw q S.fits; is = rw q S.is }

    one_more : eqb (target (j - 1)) 0 ≡ false → (r : ℕ) (to' : List ℕ) → r ≡ arcs - 1 → to' ≡ set to (arcs - 1) (target (j - 1) - 1) → Storing t target was (j - 1) r to'
    one_more e r to' a b =
        let y = target (j - 1) - 1 in
        let rest = led_to_from t target j in
        let q : led_to_from t target (j - 1) ≡ y ∷ rest =
        from_step target (behind_all t) (j - 1) low ∙ rw (e, back) in
        let s = from_shorter target (behind_all t) 0 (j - 1) (omega arith) (omega (arith, low)) in
        let f = S.fits in
        let m = S.room in
        let z = ap length q in
        let p : arcs ≡ suc (arcs - 1) = omega arith in
        let c : set (take arcs was ++ rest) (arcs - 1) y ≡ take (arcs - 1) was ++ (y ∷ rest) =
        ap (λ (k : ℕ). set (take k was ++ rest) (arcs - 1) y) p ∙ store_last was (arcs - 1) y rest (omega arith) in
        record { room = m; fits = rw q (omega arith); is = b ∙ ap (λ (x : List ℕ). set x (arcs - 1) y) S.is ∙ c ∙ rw (q, a) }

    -- a node whose target was given to `add_arc`
    pub storing_adds : {r : ℕ} {to' : List ℕ} → Added to arcs (target (j - 1)) r to' → Storing t target was (j - 1) r to'
    storing_adds {r} {to'} A = by (eqb (target (j - 1)) 0) refl A.arcs_are A.to_is
      where
        by : (b : Bool) → eqb (target (j - 1)) 0 ≡ b → r ≡ cond b arcs (arcs - 1) → to' ≡ cond b to (set to (arcs - 1) (target (j - 1) - 1)) → Storing t target was (j - 1) r to'
        by true e p q = rw (p, q) (storing_passes (eqb-true (target (j - 1)) 0 e))
        by false e p q = one_more e r to' p q

  -- ---- the loop over the declarations, from the last to the first

  storing_starts : (to : List ℕ) → length (led_to_from t target 0) ≤ length to → Storing t target to (behind_all t) (length to) to
  storing_starts to h =
      let e = from_end target (behind_all t) in
      record { room = h; fits = rw e (omega arith); is = rw (e, take-length to) (sym (append-nil to)) }

  pub building_starts :
      (first to : List ℕ) (v arcs : ℕ) → v ≡ length first - 1 → arcs ≡ length to → Room t target (length first) (length to) → Building t target to v first arcs to
  building_starts first to v arcs p q R =
      let e : v ≡ vertex_count t = omega (arith, R.offsets_are) in
      rw (e, q)
      (record { room = R; within = omega arith; offsets = λ w l h. absurd (omega arith); storing = storing_starts to R.enough })

  module _ {was : List ℕ} {v : ℕ} {first : List ℕ} {arcs : ℕ} {to : List ℕ} (B : Building t target was v first arcs to) where
    pub arcs_low : arcs ≤ length was
    arcs_low = omega (arith, B.storing.fits)

    -- the loop over the nodes of the declaration before v starts, behind its own node
    pub building_range : Targets t target → 0 < v → Storing t target was (node_of t (v - 1)) arcs to
    building_range T h =
        let u = v - 1 in
        let l : u < vertex_count t = omega (arith, B.within) in
        let q : range_start t v ≡ node_of t u + 1 = let b : v ≡ u + 1 = omega arith in ap (range_start t) b ∙ range_next t u in
        let S = B.storing in
        let e : led_to_from t target (node_of t u) ≡ led_to_from t target (range_start t v) =
        from_none target (behind_all t) (node_of t u) (before_all t u l) (T.none (node_of t u) (node_declares t u l)) ∙ ap (led_to_from t target) (sym q) in
        record { room = S.room; fits = rw e S.fits; is = rw e S.is }

    -- the offset of v is stored
    abbrev pub Offset : List ℕ → Type 0
    Offset first' = (w : ℕ) → v ≤ w → w ≤ vertex_count t → get_or first' w 0 ≡ length was - length (led_to_from t target (range_start t w))

    pub offset_stored : {x : ℕ} {first' : List ℕ} → (arcs < 4294967296 → x ≡ arcs) → first' ≡ set first v x → Offset first'
    offset_stored {x} {first'} n s w l h =
        let R = B.room in
        let k : x ≡ arcs = n (omega (arith, R.small, arcs_low)) in
        let f = B.storing.fits in
        by_cases (ℕ_discrete w v)
        (λ e.
        let a : get_or (set first v x) v 0 ≡ x = get_or-set_same first v x 0 (omega (arith, R.offsets_are)) in
        let b : get_or first' w 0 ≡ x = ap (λ (i : ℕ). get_or first' i 0) e ∙ ap (λ (c : List ℕ). get_or c v 0) s ∙ a in
        let c = ap (λ (i : ℕ). length (led_to_from t target (range_start t i))) e in
        omega arith)
        (λ e. ap (λ (c : List ℕ). get_or c w 0) s ∙ get_or-set_other first v w x 0 e ∙ B.offsets w (omega (arith, e)) h)

    -- the loop over its nodes is done
    pub building_goes_on :
        {x arcs' : ℕ} {first' to' : List ℕ} → 0 < v → (arcs < 4294967296 → x ≡ arcs) → first' ≡ set first v x →
        Storing t target was (range_start t (v - 1)) arcs' to' → Building t target was (v - 1) first' arcs' to'
    building_goes_on {x} {arcs'} {first'} {to'} h n s S =
        let e : length first' ≡ length first = ap length s ∙ length-set first v x in
        record {
          room = rw e B.room;
          within = omega (arith, B.within);
          offsets = λ w l g. offset_stored n s w (omega arith) g;
          storing = S;
        }

-- ---- what `add_arc` gives

pub adds_none : {to : List ℕ} {arcs target : ℕ} → target ≡ 0 → Added to arcs target arcs to
adds_none {target = target} e = record { arcs_are = rw e; to_is = rw e }

pub adds_one :
    {to : List ℕ} {arcs target r y : ℕ} {to' : List ℕ} → (target ≡ 0 → ⊥) → r ≡ arcs - 1 → y ≡ target - 1 → to' ≡ set to r y → Added to arcs target r to'
adds_one {to} {arcs} {target} {r} {y} h p q s =
    let e = ne_eqb target 0 h in record { arcs_are = rw e p; to_is = rw (e, ← p, ← q) s }

-- The loops over rows: the arcs of a vertex that do not lead into its group, and each vertex at its place.
use mathlib.Core.Path.{◌≡◌, refl, sym, ap, ◌∙◌}
use mathlib.Core.Bool.{Bool, true, false, false≢true}
use mathlib.Core.List.{List}
use mathlib.Core.Logic.{by_cases}
use Prim.Native.Nat.{ℕ, ◌+◌, ◌*◌, ◌≤◌, ◌<◌, min}
use native.Mathlib.Omega.{arith}
use native.Mathlib.Decide.{ℕ_discrete}
use lib.Dec.{eqb}
use lib.ListN.{length, get_or, set, length-set}
use borrow.Author.Tests.{eqb-true, eq-eqb}
use Rattle.graph.specs.Graph.{Tells}
use Rattle.graph.proofs.Store.{put}
use Rattle.graph.proofs.Arcs.{arc_place, arc_below}
use Rattle.group_rows.specs.Rows.{cell, Grouped, Inner, Arrangeable, Arranged}

-- the test of two numbers
pub tells_equal : (x y : ℕ) {z : ℕ} → x ≡ z → Tells (z ≡ y) (eqb x y)
tells_equal x y e = record { yes = λ t. sym e ∙ eqb-true x y t; no = λ f p. false≢true (sym f ∙ eq-eqb x y (e ∙ p)) }

-- ---- the arcs of v up to e do not lead into its group
pub record Looking (first to s : List ℕ) (v own end e : ℕ) : Type 0 where
  pub own_is : own ≡ cell s 0 v
  pub end_is : end ≡ min (get_or first (v + 1) 0) (length to)
  pub low : get_or first v 0 ≤ e
  pub none : Grouped first to s v → (f : ℕ) → get_or first v 0 ≤ f → f < e → cell s 0 (get_or to f 0) ≡ cell s 0 v → ⊥

pub looking_start : {first to s : List ℕ} (v : ℕ) {own e p end : ℕ} → own ≡ cell s 0 v → e ≡ get_or first v 0 → p ≡ get_or first (v + 1) 0 → end ≡ min p (length to)
    → Looking first to s v own end e
looking_start {first} {to} v o p q m =
    record { own_is = o; end_is = m ∙ ap (λ (x : ℕ). min x (length to)) q; low = omega arith; none = λ _ f i j. absurd (omega arith) }

module _ {first to s : List ℕ} {v own end e : ℕ} (L : Looking first to s v own end e) (l : e < end) where
  pub looking_place : e < length to
  looking_place = omega (arith, L.end_is)

  upto : e < get_or first (v + 1) 0
  upto = omega (arith, L.end_is)

  module _ {w : ℕ} {r : Bool} (q : w ≡ get_or to e 0) (T : w < 65536 → 6 * w < length s → Tells (cell s 0 w ≡ own) r) where
    -- of a graph, its target has a row
    told : Grouped first to s v → Tells (cell s 0 w ≡ own) r
    told G =
        let b = arc_below G.graph v e G.low L.low upto in
        T (omega (arith, q, b, G.graph.small)) (omega (arith, q, b, G.room))

    pub looking_hit : r ≡ true → Grouped first to s v → Inner first to s v
    looking_hit h G =
        record { place = e; from = L.low; upto = upto; same = ap (λ (x : ℕ). cell s 0 x) (sym q) ∙ (told G).yes h ∙ L.own_is }

    pub looking_step : r ≡ false → Looking first to s v own end (e + 1)
    looking_step h =
        record {
          own_is = L.own_is;
          end_is = L.end_is;
          low = omega (arith, L.low);
          none =
              λ G f i j.
              by_cases (ℕ_discrete f e)
              (λ z y. (told G).no h (ap (cell s 0) (q ∙ ap (λ (x : ℕ). get_or to x 0) (sym z)) ∙ y ∙ sym L.own_is))
              (λ z. L.none G f i (omega (arith, z)));
        }

pub looking_end : {first to s : List ℕ} {v own end e : ℕ} → Looking first to s v own end e → end ≤ e → Grouped first to s v → Inner first to s v → ⊥
looking_end {v = v} L l G i =
    let p = arc_place G.graph v i.place G.low i.upto in
    L.none G i.place i.from (omega (arith, i.upto, L.end_is, p)) i.same

-- ---- each vertex at its place
pub record Arranging (order₀ s : List ℕ) (n : ℕ) (order : List ℕ) (v : ℕ) : Type 0 where
  pub within : v ≤ n
  pub long : length order ≡ length order₀
  pub is : Arrangeable order₀ s n → (u : ℕ) → u < v → get_or order (cell s 1 u) 0 ≡ u

pub arranging_start : (order s : List ℕ) (n : ℕ) → Arranging order s n order 0
arranging_start order s n = record { within = omega arith; long = refl; is = λ _ u l. absurd (omega arith) }

pub arranging_step : {order₀ s order order' : List ℕ} {n v k x : ℕ} → Arranging order₀ s n order v → v < n → k ≡ cell s 1 v → x ≡ v → order' ≡ set order k x
    → Arranging order₀ s n order' (v + 1)
arranging_step {order₀} {s} {order} {order'} {n} {v} {k} {x} A l q p e =
    record { within = omega arith; long = ap length e ∙ length-set order k x ∙ A.long; is = λ B u h. rw e (rw p (there B u h)) }
  where
    there : Arrangeable order₀ s n → (u : ℕ) → u < v + 1 → get_or (set order k v) (cell s 1 u) 0 ≡ u
    there B u h =
        let o = put order k v (omega (arith, q, B.low v l, B.order_room, A.long)) in
        by_cases (ℕ_discrete u v) (λ e. rw (e, ← q) o.at)
        (λ e. o.off (cell s 1 u) (λ z. e (B.once u v (omega arith) l (z ∙ q))) ∙ A.is B u (omega (arith, e)))

pub arranging_end : {order₀ s order : List ℕ} {n v : ℕ} → Arranging order₀ s n order v → n ≤ v → Arrangeable order₀ s n → Arranged s order n
arranging_end A l B = record { is = λ u h. A.is B u (omega arith) }

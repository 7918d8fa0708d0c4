-- The test of the places goes over the vertices; what passes it is an order, and there is no cycle.
use mathlib.Core.Path.{◌≡◌, refl, sym, ap, ◌∙◌}
use mathlib.Core.Logic.{by_cases}
use mathlib.Core.Bool.{Bool, true, false, false≢true}
use mathlib.Core.List.{List}
use Prim.Native.Nat.{ℕ, ◌+◌, ◌≤◌, ◌<◌}
use native.Mathlib.Omega.{arith}
use native.Mathlib.Decide.{ℕ_discrete}
use lib.ListN.{length, get_or, set, length-set}
use lib.Seq.{get_or-set_same, get_or-set_other}
use Rattle.relations.specs.Reach.{Reaches, direct, onward}
use Rattle.graph.specs.Graph.{vertices, Arc}
use Rattle.graph.proofs.Arcs.{arc_source}
use Rattle.cycles.specs.Answer.{Acyclic, Ordered, Zeros}
use Rattle.orders.specs.Places.{Falls, Places, Copies, CopiesIf, SortsIn}

pub never : {P : Type 0} → false ≡ true → P
never e = absurd (false≢true e)

-- ---- the arcs of a vertex, as far as they are passed
pub record Fallen (to s : List ℕ) (p from e : ℕ) : Type 0 where
  pub low : from ≤ e
  pub falls : Falls to s p from e

pub fallen_start : {to s : List ℕ} {p from : ℕ} → Fallen to s p from from
fallen_start = record { low = omega arith; falls = record { is = λ e a b. absurd (omega arith) } }

pub fallen_step : {to s : List ℕ} {p from e w x : ℕ} → Fallen to s p from e → w ≡ get_or to e 0 → x ≡ get_or s w 0 → x < p → Fallen to s p from (e + 1)
fallen_step {to} {s} {p} {from} {e} f q h n =
    record {
      low = omega (arith, f.low);
      falls =
          record {
            is =
                λ i a b.
                by_cases (ℕ_discrete i e) (λ z. rw (z, ← q, ← h) (omega (arith, n)))
                (λ z. f.falls.is i a (omega (arith, z)));
          };
    }

pub fallen_end : {to s : List ℕ} {p from end e : ℕ} → Fallen to s p from e → end ≤ e → Falls to s p from end
fallen_end f l = record { is = λ i a b. f.falls.is i a (omega arith) }

-- ---- the vertices copied by their places
pub record Copying (s : List ℕ) (n room : ℕ) (order : List ℕ) (k : ℕ) : Type 0 where
  pub long : length order ≡ room
  pub is : (i : ℕ) → i < k → i < room → get_or order i 0 ≡ get_or s (n + i) 0

pub copying_start : {s order : List ℕ} {n : ℕ} → Copying s n (length order) order 0
copying_start = record { long = refl; is = λ i a b. absurd (omega arith) }

pub copying_step : {s order order' : List ℕ} {n room k v x : ℕ} → Copying s n room order k → (v ≡ get_or s (n + k) 0) × (v < 4294967296) → (v < 4294967296 → x ≡ v)
    → order' ≡ set order k x → Copying s n room order' (k + 1)
copying_step {s} {order} {order'} {n} {room} {k} {v} {x} c a b q =
    record {
      long = ap length q ∙ length-set order k x ∙ c.long;
      is =
          λ i l h.
          by_cases (ℕ_discrete i k)
          (λ z. rw (z, q) (get_or-set_same order k x 0 (omega (arith, c.long, z)) ∙ b a.1 ∙ a.0))
          (λ z. ap (λ (o : List ℕ). get_or o i 0) q ∙ get_or-set_other order k i x 0 z ∙ c.is i (omega (arith, z)) h);
    }

pub copying_end : {s order : List ℕ} {n room k : ℕ} → Copying s n room order k → n ≤ k → Copies s n order room
copying_end c l = record { is = λ i a b. c.is i (omega arith) b }

-- ---- the places of the vertices, as far as they are tested
pub places_start : {first to s : List ℕ} {n : ℕ} → Places first to n s 0
places_start =
    record {
      place_low = λ v l. absurd (omega arith);
      vertex_low = λ v l. absurd (omega arith);
      there = λ v l. absurd (omega arith);
      back = λ v l. absurd (omega arith);
      falls = λ v l. absurd (omega arith);
    }

module _ {first to s : List ℕ} {n m : ℕ} (P : Places first to n s m) where
  pub places_step : {p w : ℕ} → p ≡ get_or s m 0 → w ≡ get_or s (n + m) 0 → p < n → w < n → get_or s (n + p) 0 ≡ m → get_or s w 0 ≡ m
      → Falls to s p (get_or first m 0) (get_or first (m + 1) 0) → Places first to n s (m + 1)
  places_step {p} {w} a b l h t k f =
      record {
        place_low = λ v i. by_cases (ℕ_discrete v m) (λ z. rw (z, ← a) l) (λ z. P.place_low v (omega (arith, z)));
        vertex_low = λ v i. by_cases (ℕ_discrete v m) (λ z. rw (z, ← b) h) (λ z. P.vertex_low v (omega (arith, z)));
        there = λ v i. by_cases (ℕ_discrete v m) (λ z. rw (z, ← a) t) (λ z. P.there v (omega (arith, z)));
        back = λ v i. by_cases (ℕ_discrete v m) (λ z. rw (z, ← b) k) (λ z. P.back v (omega (arith, z)));
        falls = λ v i. by_cases (ℕ_discrete v m) (λ z. rw (z, ← a) f) (λ z. P.falls v (omega (arith, z)));
      }

  pub places_end : m ≤ n → n ≤ m → Places first to n s n
  places_end l h = let q : m ≡ n = omega arith in rw q at P

-- ---- all of them
module _ {first to s : List ℕ} (P : Places first to (vertices first) s (vertices first)) where
  arc_falls : {v w : ℕ} → Arc first to v w → get_or s w 0 < get_or s v 0
  arc_falls {v} {w} a =
      let l : v < vertices first = omega (arith, arc_source a) in
      let t = a.target in
      rw t at ((P.falls v l).is a.place a.from a.upto)

  reaches_falls : {v w : ℕ} → Reaches (Arc first to) v w → get_or s w 0 < get_or s v 0
  reaches_falls (direct a) = arc_falls a
  reaches_falls (onward a r) = omega (arith, arc_falls a, reaches_falls r)

  pub places_acyclic : Acyclic first to
  places_acyclic v c = omega (arith, reaches_falls c)

  pub places_ordered : {order : List ℕ} → Copies s (vertices first) order (vertices first) → Ordered first to order
  places_ordered {order} o =
      let at : (k : ℕ) → k < vertices first → get_or s (get_or order k 0) 0 ≡ k = λ k l. ap (λ (x : ℕ). get_or s x 0) (o.is k l l) ∙ P.back k l in
      record {
        low = λ k l. omega (arith, o.is k l l, P.vertex_low k l);
        all = λ v l. (get_or s v 0, P.place_low v l, o.is (get_or s v 0) (P.place_low v l) (P.place_low v l) ∙ P.there v l);
        once = λ j k l h e. sym (at j l) ∙ ap (λ (x : ℕ). get_or s x 0) e ∙ at k h;
        after = λ j k l h a. omega (arith, at j l, at k h, arc_falls a);
      }

-- ---- what `sort_in` comes to
module _ (s : List ℕ) (n : ℕ) (order : List ℕ) where
  pub sorts_in : {first to s₀ z : List ℕ} (order' : List ℕ) (b : Bool) → (b ≡ true → Places first to n s n) → n ≡ length order → CopiesIf b s n order order' → Zeros s₀ z
      → SortsIn first to order s₀ b order' z
  sorts_in order' true p q c h =
      record {
        sorted =
            λ _ e.
            let k = q ∙ e in
            (places_ordered (rw k at (p refl)) (rw (e, k) at c), places_acyclic (rw k at (p refl)));
        kept = λ e. never (sym e);
        zeros = h;
      }
  sorts_in order' false p q c h = record { sorted = λ e. never e; kept = λ _. c; zeros = h }

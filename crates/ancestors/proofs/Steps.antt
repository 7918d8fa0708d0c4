-- One step of each loop over words, arcs and vertices, and the limits of the indices.
use mathlib.Core.Path.{◌≡◌, refl, sym, ap, ◌∙◌}
use mathlib.Core.Bool.{Bool, true, false, ◌&&◌, not}
use mathlib.Core.List.{List}
use Prim.Native.Nat.{ℕ, suc, ◌+◌, ◌-◌, ◌*◌, ◌≤◌, ◌<◌}
use native.Mathlib.Nat.{mul-le-mul}
use native.Mathlib.Numerals.{add-one}
use native.Mathlib.Omega.{arith}
use borrow.Author.Tests.{eq-eqb, ne_eqb, not-true, not-false}
use lib.Bits.{bit_or}
use lib.ListN.{length, get_or, set}
use Rattle.bit_rows.specs.Bits.{bit}
use Rattle.ancestors.specs.Rows.{word_count, width_limit, offset_limit, place, merged, contained, arc_joined, arc_closed, arcs_joined, arcs_closed}
use Rattle.ancestors.specs.Rows.{vertex_joined, vertex_closed, vertices_joined, vertices_closed}

-- ---- limits: the rows of two ranks
row_low : {width rank : ℕ} → width ≤ width_limit → rank < word_count → rank * width ≤ offset_limit
row_low {width} {rank} l h = omega (arith, mul-le-mul {n₁ = rank} {m₁ = width} {n₂ = word_count} {m₂ = width_limit} (omega arith) l)

pub rows_low : {width rank other : ℕ} → (width ≤ width_limit) × (rank < word_count) × (other < word_count)
    → (rank * width ≤ offset_limit) × (other * width ≤ offset_limit)
rows_low h = (row_low h.0 h.1, row_low h.0 h.2)

-- ---- words
pub record Merging (rows : List ℕ) (into from width : ℕ) (done : List ℕ) (k : ℕ) : Type 0 where
  pub low : k ≤ width
  pub long : length done ≡ length rows
  pub is : done ≡ merged rows into from k

module _ {rows : List ℕ} {into from width : ℕ} where
  pub merging_start : Merging rows into from width rows 0
  unfolding merged
  merging_start = record { low = omega arith; long = refl; is = refl }

  pub merging_step : {k x y : ℕ} {done after : List ℕ} → Merging rows into from width done k → k < width → length after ≡ length done
      → x ≡ get_or done (into + k) 0 → y ≡ get_or done (from + k) 0 → after ≡ set done (into + k) (bit_or x y) → Merging rows into from width after (k + 1)
  unfolding merged
  merging_step {k} m l h p q s = record { low = omega arith; long = h ∙ m.long; is = rw (add-one k) (s ∙ rw (p, q, m.is)) }

  pub merging_end : {k : ℕ} {done : List ℕ} → Merging rows into from width done k → width ≤ k → done ≡ merged rows into from width
  merging_end {k} m l = m.is ∙ ap (merged rows into from) (omega (arith, m.low))

one_less : {A : Type 0} (f : ℕ → A) {k : ℕ} → 0 < k → f k ≡ f (suc (k - 1))
one_less f l = ap f (omega arith)

-- the words from k on are tested, from the last one down
pub record Containing (rows : List ℕ) (into from width k : ℕ) : Type 0 where
  pub low : k ≤ width
  pub is : contained rows into from width ≡ contained rows into from k

module _ {rows : List ℕ} {into from width : ℕ} where
  pub containing_start : Containing rows into from width width
  containing_start = record { low = omega arith; is = refl }

  pub containing_no : {k x y : ℕ} → Containing rows into from width k → 0 < k → x ≡ get_or rows (into + (k - 1)) 0 → y ≡ get_or rows (from + (k - 1)) 0
      → (bit_or x y ≡ x → ⊥) → false ≡ contained rows into from width
  unfolding contained
  containing_no c l p q n = sym (c.is ∙ one_less (contained rows into from) l ∙ rw (← p, ← q, ne_eqb _ _ n))

  pub containing_step : {k x y : ℕ} → Containing rows into from width k → 0 < k → x ≡ get_or rows (into + (k - 1)) 0 → y ≡ get_or rows (from + (k - 1)) 0
      → bit_or x y ≡ x → Containing rows into from width (k - 1)
  unfolding contained
  containing_step {k} c l p q n = record { low = omega (arith, c.low); is = c.is ∙ one_less (contained rows into from) l ∙ rw (← p, ← q, eq-eqb _ _ n) }

  pub containing_end : {k : ℕ} → Containing rows into from width k → k ≤ 0 → true ≡ contained rows into from width
  unfolding contained
  containing_end {k} c l = let q : k ≡ 0 = omega arith in sym (c.is ∙ ap (contained rows into from) q)

-- ---- the tests of an arc
module _ (width rank other : ℕ) (rows : List ℕ) where
  pub arc_no : bit rows other ≡ false → false ≡ arc_closed width rank other rows
  unfolding arc_closed
  arc_no a = rw a

  pub arc_without : bit rows other ≡ true → bit rows (place width rank other) ≡ false → false ≡ arc_closed width rank other rows
  unfolding arc_closed
  arc_without a b = rw (a, b)

  pub arc_as : {r : Bool} → bit rows other ≡ true → bit rows (place width rank other) ≡ true → r ≡ contained rows (rank * width) (other * width) width
      → r ≡ arc_closed width rank other rows
  unfolding arc_closed
  arc_as a b e = rw (a, b) e

-- ---- arcs, of which e is the next
pub record Joining (to ranks : List ℕ) (width rank from end : ℕ) (rows done : List ℕ) (e : ℕ) : Type 0 where
  pub low : from ≤ e
  pub high : e - from ≤ end - from
  pub long : length done ≡ length rows
  pub is : done ≡ arcs_joined to ranks width rank from (e - from) rows

module _ {to ranks : List ℕ} {width rank from end : ℕ} where
  pub joining_start : {rows : List ℕ} → Joining to ranks width rank from end rows rows from
  unfolding arcs_joined
  joining_start {rows} =
      let q : from - from ≡ 0 = omega arith in
      record { low = omega arith; high = omega arith; long = refl; is = ap (λ (k : ℕ). arcs_joined to ranks width rank from k rows) (sym q) }

  pub joining_step : {rows done after : List ℕ} {e w other : ℕ} → Joining to ranks width rank from end rows done e → e < end → length after ≡ length done
      → w ≡ get_or to e 0 → other ≡ get_or ranks w 0 → after ≡ arc_joined width rank other done → Joining to ranks width rank from end rows after (e + 1)
  unfolding arcs_joined
  joining_step {rows} {done} {after} {e} {w} {other} j l h p q s =
      let k : e + 1 - from ≡ suc (e - from) = omega (arith, j.low) in
      let i : from + (e - from) ≡ e = omega (arith, j.low) in
      record {
        low = omega (arith, j.low);
        high = omega (arith, j.low);
        long = h ∙ j.long;
        is = rw (k, i, ← p, ← q, ← j.is) s;
      }

  pub joining_end : {rows done : List ℕ} {e : ℕ} → Joining to ranks width rank from end rows done e → end ≤ e → done ≡ arcs_joined to ranks width rank from (end - from) rows
  joining_end {rows} {done} {e} j l =
      let q : e - from ≡ end - from = omega (arith, j.high) in
      j.is ∙ ap (λ (k : ℕ). arcs_joined to ranks width rank from k rows) q

-- the arcs from e on are tested
pub record Closing (to ranks : List ℕ) (width rank from end : ℕ) (rows : List ℕ) (e : ℕ) : Type 0 where
  pub is : arcs_closed to ranks width rank from (end - from) rows ≡ arcs_closed to ranks width rank from (e - from) rows

module _ {to ranks : List ℕ} {width rank from end : ℕ} {rows : List ℕ} where
  pub closing_start : Closing to ranks width rank from end rows end
  closing_start = record { is = refl }

  closing_of : {e w other : ℕ} {b : Bool} → Closing to ranks width rank from end rows e → from < e → w ≡ get_or to (e - 1) 0 → other ≡ get_or ranks w 0
      → b ≡ arc_closed width rank other rows
      → arcs_closed to ranks width rank from (end - from) rows ≡ (b && arcs_closed to ranks width rank from (e - 1 - from) rows)
  unfolding arcs_closed
  closing_of {e} c l p q s =
      let k : e - from ≡ suc (e - 1 - from) = omega arith in
      let i : from + (e - 1 - from) ≡ e - 1 = omega arith in
      c.is ∙ rw (k, i, ← p, ← q, ← s)

  pub closing_no : {e w other : ℕ} {b : Bool} → Closing to ranks width rank from end rows e → from < e → w ≡ get_or to (e - 1) 0 → other ≡ get_or ranks w 0
      → b ≡ arc_closed width rank other rows → not b ≡ true → false ≡ arcs_closed to ranks width rank from (end - from) rows
  closing_no {b = b} c l p q s n = sym (closing_of c l p q s ∙ rw (not-true b n))

  pub closing_step : {e w other : ℕ} {b : Bool} → Closing to ranks width rank from end rows e → from < e → w ≡ get_or to (e - 1) 0 → other ≡ get_or ranks w 0
      → b ≡ arc_closed width rank other rows → not b ≡ false → Closing to ranks width rank from end rows (e - 1)
  closing_step {b = b} c l p q s n = record { is = closing_of c l p q s ∙ rw (not-false b n) }

  pub closing_end : {e : ℕ} → Closing to ranks width rank from end rows e → e ≤ from → true ≡ arcs_closed to ranks width rank from (end - from) rows
  unfolding arcs_closed
  closing_end {e} c l = let q : e - from ≡ 0 = omega arith in sym (c.is ∙ rw q)

-- ---- vertices, with the rank and the arcs that the code reads
module _ (first to ranks : List ℕ) (width : ℕ) (rows : List ℕ) (v : ℕ) {rank from end : ℕ} where
  vertex_is : {b : Bool} → rank ≡ get_or ranks v 0 → (rank ≡ 0 → ⊥) → from ≡ get_or first v 0 → end ≡ get_or first (v + 1) 0
      → b ≡ arcs_closed to ranks width rank from (end - from) rows → b ≡ vertex_closed first to ranks width v rows
  unfolding vertex_closed
  vertex_is p n q r s = s ∙ rw (← p, ne_eqb rank 0 n, ← q, ← r)

  vertex_adds : {after : List ℕ} → rank ≡ get_or ranks v 0 → (rank ≡ 0 → ⊥) → from ≡ get_or first v 0 → end ≡ get_or first (v + 1) 0
      → after ≡ arcs_joined to ranks width rank from (end - from) rows → after ≡ vertex_joined first to ranks width v rows
  unfolding vertex_joined
  vertex_adds p n q r s = s ∙ rw (← p, ne_eqb rank 0 n, ← q, ← r)

pub record Placing (first to ranks order : List ℕ) (width : ℕ) (rows done : List ℕ) (p : ℕ) : Type 0 where
  pub low : p ≤ length order
  pub long : length done ≡ length rows
  pub is : done ≡ vertices_joined first to ranks order width p rows

module _ {first to ranks order : List ℕ} {width : ℕ} {rows : List ℕ} where
  pub placing_start : Placing first to ranks order width rows rows 0
  unfolding vertices_joined
  placing_start = record { low = omega arith; long = refl; is = refl }

  placing_step : {done after : List ℕ} {p v : ℕ} → Placing first to ranks order width rows done p → p < length order → length after ≡ length done
      → v ≡ get_or order p 0 → after ≡ vertex_joined first to ranks width v done → Placing first to ranks order width rows after (p + 1)
  unfolding vertices_joined
  placing_step {p = p} a l h q s = record { low = omega arith; long = h ∙ a.long; is = rw (add-one p, ← q, ← a.is) s }

  pub placing_joined : {done after : List ℕ} {p v rank from end : ℕ} → Placing first to ranks order width rows done p → p < length order
      → length after ≡ length done → v ≡ get_or order p 0 → rank ≡ get_or ranks v 0 → (rank ≡ 0 → ⊥) → from ≡ get_or first v 0 → end ≡ get_or first (v + 1) 0
      → after ≡ arcs_joined to ranks width rank from (end - from) done → Placing first to ranks order width rows after (p + 1)
  placing_joined {done} {v = v} a l h q r n f t s = placing_step a l h q (vertex_adds first to ranks width done v r n f t s)

  pub placing_passed : {done after : List ℕ} {p v rank : ℕ} → Placing first to ranks order width rows done p → p < length order → v ≡ get_or order p 0
      → rank ≡ get_or ranks v 0 → rank ≡ 0 → after ≡ done → Placing first to ranks order width rows after (p + 1)
  unfolding vertex_joined
  placing_passed {done} a l q r n s = placing_step a l (ap length s) q (s ∙ rw (← r, n))

  pub placing_end : {done : List ℕ} {p : ℕ} → Placing first to ranks order width rows done p → length order ≤ p
      → done ≡ vertices_joined first to ranks order width (length order) rows
  placing_end {p = p} a l =
      let q : p ≡ length order = omega (arith, a.low) in
      a.is ∙ ap (λ (k : ℕ). vertices_joined first to ranks order width k rows) q

-- the vertices from v on are tested
pub record Testing (first to ranks : List ℕ) (width : ℕ) (rows : List ℕ) (v : ℕ) : Type 0 where
  pub low : v ≤ length ranks
  pub is : vertices_closed first to ranks width (length ranks) rows ≡ vertices_closed first to ranks width v rows

module _ {first to ranks : List ℕ} {width : ℕ} {rows : List ℕ} where
  pub testing_start : Testing first to ranks width rows (length ranks)
  testing_start = record { low = omega arith; is = refl }

  testing_of : {v : ℕ} {b : Bool} → Testing first to ranks width rows v → 0 < v → b ≡ vertex_closed first to ranks width (v - 1) rows
      → vertices_closed first to ranks width (length ranks) rows ≡ (b && vertices_closed first to ranks width (v - 1) rows)
  unfolding vertices_closed
  testing_of c l s = c.is ∙ one_less (λ k. vertices_closed first to ranks width k rows) l ∙ rw (← s)

  pub testing_no : {v rank from end : ℕ} {b : Bool} → Testing first to ranks width rows v → 0 < v → rank ≡ get_or ranks (v - 1) 0 → (rank ≡ 0 → ⊥)
      → from ≡ get_or first (v - 1) 0 → end ≡ get_or first (v - 1 + 1) 0 → b ≡ arcs_closed to ranks width rank from (end - from) rows
      → not b ≡ true → false ≡ vertices_closed first to ranks width (length ranks) rows
  testing_no {v} {b = b} c l p n q r s t = sym (testing_of c l (vertex_is first to ranks width rows (v - 1) p n q r s) ∙ rw (not-true b t))

  pub testing_step : {v rank from end : ℕ} {b : Bool} → Testing first to ranks width rows v → 0 < v → rank ≡ get_or ranks (v - 1) 0 → (rank ≡ 0 → ⊥)
      → from ≡ get_or first (v - 1) 0 → end ≡ get_or first (v - 1 + 1) 0 → b ≡ arcs_closed to ranks width rank from (end - from) rows
      → not b ≡ false → Testing first to ranks width rows (v - 1)
  testing_step {v} {b = b} c l p n q r s t = record { low = omega (arith, c.low); is = testing_of c l (vertex_is first to ranks width rows (v - 1) p n q r s) ∙ rw (not-false b t) }

  pub testing_pass : {v rank : ℕ} → Testing first to ranks width rows v → 0 < v → rank ≡ get_or ranks (v - 1) 0 → rank ≡ 0 → Testing first to ranks width rows (v - 1)
  unfolding vertex_closed
  testing_pass c l p e = record { low = omega (arith, c.low); is = testing_of {b = true} c l (rw (← p, e)) }

  pub testing_end : {v : ℕ} → Testing first to ranks width rows v → v ≤ 0 → true ≡ vertices_closed first to ranks width (length ranks) rows
  unfolding vertices_closed
  testing_end {v} c l = let q : v ≡ 0 = omega arith in sym (c.is ∙ rw q)

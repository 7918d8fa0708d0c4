-- Rows to which no arc adds a bit, and which arcs alone have filled, say what is reached.
use mathlib.Core.Path.{◌≡◌, refl, sym, ap, ◌∙◌, subst}
use mathlib.Core.Logic.{by_cases, ⊎_elim}
use mathlib.Core.Bool.{Bool, true, false, false≢true}
use mathlib.Core.List.{List}
use Prim.Native.Nat.{ℕ, zero, suc, ◌+◌, ◌-◌, ◌*◌, ◌/◌, ◌%◌, ◌≤◌, ◌<◌}
use native.Mathlib.Nat.{mul_assoc, mul-le-mul}
use native.Mathlib.Decide.{ℕ_discrete, dec_lt}
use native.Mathlib.Omega.{arith}
use borrow.Author.Tests.{eqb-true, eq-eqb, ne_eqb, lt-ltb, le-ltb}
use lib.Arith.{digits_div, digits_mod}
use lib.Dec.{eqb}
use lib.Bits.{bit_or}
use lib.ListN.{length, get_or}
use Rattle.columns.specs.Column.{cleared}
use Rattle.relations.specs.Reach.{Reaches, direct, onward}
use Rattle.relations.proofs.Select.{and_fst, and_snd}
use Rattle.graph.specs.Graph.{vertices, Arc}
use Rattle.graph.proofs.Arcs.{arc_source, arc_target}
use Rattle.bit_rows.specs.Bits.{word, bit, with_bit}
use Rattle.bit_rows.proofs.Bits.{bit_set, bit_merged, bit_kept, bit_zeros}
use Rattle.ancestors.specs.Rows.{width_limit, place, merged, contained, arc_joined, arc_closed, arcs_joined, arcs_closed, vertex_joined, vertex_closed, vertices_joined, vertices_closed}
use Rattle.ancestors.specs.Related.{Ranked, Related, Relates}

-- ---- places of bits: the row and the bit in it are told by division
places_same : (width a b i j : ℕ) → i < width * word → j < width * word → place width a i ≡ place width b j → (a ≡ b) × (i ≡ j)
places_same width a b i j l h e =
    let q : a * (width * word) + i ≡ b * (width * word) + j = rw (← mul_assoc a width word, ← mul_assoc b width word) e in
    let d = ap (λ (x : ℕ). x / (width * word)) q in
    let m = ap (λ (x : ℕ). x % (width * word)) q in
    (sym (digits_div a l) ∙ d ∙ digits_div b h, sym (digits_mod a l) ∙ m ∙ digits_mod b h)

-- no place of a row above 0 is one of row 0
row_above : (width a i j : ℕ) → i < width * word → 0 < a → i ≡ place width a j → ⊥
row_above width a i j l h e = omega (arith, mul-le-mul {n₁ = 1} {m₁ = width} {n₂ = a} {m₂ = width} h (omega arith))

-- ---- every bit that is set satisfies P
abbrev Sound : (ℕ → Type 0) → List ℕ → Type 0
Sound P rows = (i : ℕ) → bit rows i ≡ true → P i

module _ (P : ℕ → Type 0) (rows : List ℕ) where
  set_sound : (j : ℕ) → P j → Sound P rows → Sound P (with_bit rows j)
  set_sound j p s i e = ⊎_elim (s i) (λ q. subst P (sym q) p) (bit_set rows j i e)

  merged_sound : (into from k : ℕ) → ((i : ℕ) → i < k * word → P (from * word + i) → P (into * word + i)) → Sound P rows → Sound P (merged rows into from k)
  unfolding merged
  merged_sound into from zero h s i e = s i e
  merged_sound into from (suc k) h s i e =
      let before = merged_sound into from k (λ j l. h j (omega arith)) s in
      ⊎_elim (before i)
      (λ w.
      let j = k * word + i % word in
      let q : (from + k) * word + i % word ≡ from * word + j = omega arith in
      let r : into * word + j ≡ i = omega (arith, w.0) in
      subst P r (h j (omega arith) (subst P q (before ((from + k) * word + i % word) w.1))))
      (bit_merged (merged rows into from k) (into + k) (from + k) i e)

-- ---- what the tests tell
contained_has : (rows : List ℕ) (into from k : ℕ) → contained rows into from k ≡ true → (i : ℕ) → i < k * word
    → bit rows (from * word + i) ≡ true → bit rows (into * word + i) ≡ true
unfolding contained
contained_has rows into from zero c i l e = absurd (omega arith)
contained_has rows into from (suc k) c i l e =
    let a = get_or rows (into + k) 0 in
    let b = bit_or a (get_or rows (from + k) 0) in
    by_cases (dec_lt i (k * word)) (λ h. contained_has rows into from k (and_snd (eqb b a) (contained rows into from k) c) i h e)
    (λ h.
    let j = i - k * word in
    let q : from * word + i ≡ (from + k) * word + j = omega (arith, h) in
    let r : into * word + i ≡ (into + k) * word + j = omega (arith, h) in
    rw r (bit_kept rows (into + k) (from + k) j (omega (arith, h)) (eqb-true b a (and_fst (eqb b a) (contained rows into from k) c)) (rw q at e)))

record Told (width rank other : ℕ) (rows : List ℕ) : Type 0 where
  pub any : bit rows other ≡ true
  pub one : bit rows (place width rank other) ≡ true
  pub all : contained rows (rank * width) (other * width) width ≡ true

arc_told : (width rank other : ℕ) (rows : List ℕ) → arc_closed width rank other rows ≡ true → Told width rank other rows
unfolding arc_closed
arc_told width rank other rows e =
    let rest = and_snd (bit rows other) _ e in
    record { any = and_fst (bit rows other) _ e; one = and_fst (bit rows (place width rank other)) _ rest; all = and_snd (bit rows (place width rank other)) _ rest }

arcs_told : (to ranks : List ℕ) (width rank from k : ℕ) (rows : List ℕ) → arcs_closed to ranks width rank from k rows ≡ true
    → (j : ℕ) → j < k → arc_closed width rank (get_or ranks (get_or to (from + j) 0) 0) rows ≡ true
unfolding arcs_closed
arcs_told to ranks width rank from zero rows e j l = absurd (omega arith)
arcs_told to ranks width rank from (suc k) rows e j l =
    let last = arc_closed width rank (get_or ranks (get_or to (from + k) 0) 0) rows in
    by_cases (ℕ_discrete j k) (λ q. rw q (and_fst last _ e)) (λ n. arcs_told to ranks width rank from k rows (and_snd last _ e) j (omega (arith, n)))

vertices_told : (first to ranks : List ℕ) (width n : ℕ) (rows : List ℕ) → vertices_closed first to ranks width n rows ≡ true
    → (v : ℕ) → v < n → vertex_closed first to ranks width v rows ≡ true
unfolding vertices_closed
vertices_told first to ranks width zero rows e v l = absurd (omega arith)
vertices_told first to ranks width (suc n) rows e v l =
    let last = vertex_closed first to ranks width n rows in
    by_cases (ℕ_discrete v n) (λ q. rw q (and_fst last _ e)) (λ m. vertices_told first to ranks width n rows (and_snd last _ e) v (omega (arith, m)))

vertex_told : (first to ranks : List ℕ) (width v : ℕ) (rows : List ℕ) → vertex_closed first to ranks width v rows ≡ true → 0 < get_or ranks v 0
    → arcs_closed to ranks width (get_or ranks v 0) (get_or first v 0) (get_or first (v + 1) 0 - get_or first v 0) rows ≡ true
unfolding vertex_closed
vertex_told first to ranks width v rows e l = rw (ne_eqb (get_or ranks v 0) 0 (λ q. omega arith)) at e

-- ---- ranked vertices
module _ {first to ranks : List ℕ} {width : ℕ} (R : Ranked first to ranks width) where
  -- a bit at the place of two vertices says that the one reaches the other
  abbrev Says : ℕ → Type 0
  Says i =
      (v w : ℕ) → v < vertices first → w < vertices first → 0 < get_or ranks v 0 → 0 < get_or ranks w 0 → i ≡ place width (get_or ranks v 0) (get_or ranks w 0)
      → Reaches (Arc first to) v w

  module _ {v w : ℕ} (a : Arc first to v w) (h : 0 < get_or ranks v 0) where
    says_any : Says (get_or ranks w 0)
    says_any v' w' l m p q e = absurd (row_above width (get_or ranks v' 0) (get_or ranks w 0) (get_or ranks w' 0) (R.small w) p e)

    same : (i v' w' : ℕ) → i < width * word → v' < vertices first → place width (get_or ranks v 0) i ≡ place width (get_or ranks v' 0) (get_or ranks w' 0)
        → (v ≡ v') × (i ≡ get_or ranks w' 0)
    same i v' w' l m e =
        let t = places_same width (get_or ranks v 0) (get_or ranks v' 0) i (get_or ranks w' 0) l (R.small w') e in
        (R.once v v' (arc_source a) m h t.0, t.1)

    says_one : Says (place width (get_or ranks v 0) (get_or ranks w 0))
    says_one v' w' l m p q e =
        let t = same (get_or ranks w 0) v' w' (R.small w) l e in
        let x = t.0 in
        let y = R.once w w' (arc_target R.graph a) m (R.onward v w a h) t.1 in
        rw (← x, ← y) (direct a)

    says_all : (i : ℕ) → i < width * word → Says (get_or ranks w 0 * width * word + i) → Says (get_or ranks v 0 * width * word + i)
    says_all i k s v' w' l m p q e =
        let t = same i v' w' k l e in
        let x = t.0 in
        let y = t.1 in
        rw (← x) (onward a (s w w' (arc_target R.graph a) m (R.onward v w a h) q (ap (λ (j : ℕ). get_or ranks w 0 * width * word + j) y)))

    arc_sound : (rows : List ℕ) → Sound Says rows → Sound Says (arc_joined width (get_or ranks v 0) (get_or ranks w 0) rows)
    unfolding arc_joined
    arc_sound rows s =
        let one = with_bit rows (get_or ranks w 0) in
        merged_sound Says (with_bit one (place width (get_or ranks v 0) (get_or ranks w 0))) (get_or ranks v 0 * width) (get_or ranks w 0 * width) width says_all
        (set_sound Says one (place width (get_or ranks v 0) (get_or ranks w 0)) says_one (set_sound Says rows (get_or ranks w 0) says_any s))

  arcs_sound : (v : ℕ) → 0 < get_or ranks v 0 → (rows : List ℕ) → Sound Says rows → (k : ℕ) → k ≤ get_or first (v + 1) 0 - get_or first v 0
      → Sound Says (arcs_joined to ranks width (get_or ranks v 0) (get_or first v 0) k rows)
  unfolding arcs_joined
  arcs_sound v h rows s zero l = s
  arcs_sound v h rows s (suc k) l =
      let a : Arc first to v (get_or to (get_or first v 0 + k) 0) = record { place = get_or first v 0 + k; from = omega arith; upto = omega arith; target = refl } in
      arc_sound a h (arcs_joined to ranks width (get_or ranks v 0) (get_or first v 0) k rows) (arcs_sound v h rows s k (omega arith))

  vertex_sound : (v : ℕ) (rows : List ℕ) → Sound Says rows → Sound Says (vertex_joined first to ranks width v rows)
  unfolding vertex_joined
  vertex_sound v rows s =
      by_cases (ℕ_discrete (get_or ranks v 0) 0) (λ q. rw (eq-eqb (get_or ranks v 0) 0 q) s)
      (λ n. rw (ne_eqb (get_or ranks v 0) 0 n) (arcs_sound v (omega (arith, n)) rows s (get_or first (v + 1) 0 - get_or first v 0) (omega arith)))

  vertices_sound : (order rows : List ℕ) → Sound Says rows → (p : ℕ) → Sound Says (vertices_joined first to ranks order width p rows)
  unfolding vertices_joined
  vertices_sound order rows s zero = s
  vertices_sound order rows s (suc p) = vertex_sound (get_or order p 0) (vertices_joined first to ranks order width p rows) (vertices_sound order rows s p)

  module _ (rows : List ℕ) (closed : vertices_closed first to ranks width (length ranks) rows ≡ true) where
    told : {v w : ℕ} → Arc first to v w → 0 < get_or ranks v 0 → Told width (get_or ranks v 0) (get_or ranks w 0) rows
    told {v} {w} a h =
        let c = vertex_told first to ranks width v rows (vertices_told first to ranks width (length ranks) rows closed v (omega (arith, R.long, arc_source a))) h in
        let j = a.place - get_or first v 0 in
        let e = arcs_told to ranks width (get_or ranks v 0) (get_or first v 0) (get_or first (v + 1) 0 - get_or first v 0) rows c j (omega (arith, a.from, a.upto)) in
        let q : get_or first v 0 + j ≡ a.place = omega (arith, a.from) in
        let t = a.target in
        arc_told width (get_or ranks v 0) (get_or ranks w 0) rows (rw (q, t) at e)

    any_reached : {v w : ℕ} → 0 < get_or ranks v 0 → Reaches (Arc first to) v w → bit rows (get_or ranks w 0) ≡ true
    any_reached h (direct a) = (told a h).any
    any_reached h (onward {a = v} {b = b} a r) = any_reached (R.onward v b a h) r

    all_reached : {v w : ℕ} → 0 < get_or ranks v 0 → Reaches (Arc first to) v w → bit rows (place width (get_or ranks v 0) (get_or ranks w 0)) ≡ true
    all_reached h (direct a) = (told a h).one
    all_reached {v} {w} h (onward {b = b} a r) =
        contained_has rows (get_or ranks v 0 * width) (get_or ranks b 0 * width) width (told a h).all (get_or ranks w 0) (R.small w) (all_reached (R.onward v b a h) r)

pub related : {first to ranks : List ℕ} {width : ℕ} (order rows rows' : List ℕ) → Ranked first to ranks width
    → rows' ≡ vertices_joined first to ranks order width (length order) (cleared 0 0 rows)
    → vertices_closed first to ranks width (length ranks) rows' ≡ true → Related first to ranks width rows'
related {ranks = ranks} {width} order rows rows' R q c =
    record {
      reached =
          λ v w l m h k. (
            (λ e.
                vertices_sound R order (cleared 0 0 rows) (λ i b. absurd (bit_zeros (length rows - 0) i b)) (length order)
                (place width (get_or ranks v 0) (get_or ranks w 0)) (rw q at e) v w l m h k refl),
            λ r. all_reached R rows' c h r,
          );
      by_any = λ v w h r. any_reached R rows' c h r;
    }

-- ---- what `relate` promises
module _ {first to ranks order : List ℕ} {width : ℕ} {rows : List ℕ} where
  pub relates_not : width_limit < width → Relates first to ranks order width rows false rows
  relates_not l = let q = lt-ltb width_limit width l in record { rows_are = rw q; answer = rw q; is = λ e. absurd (false≢true e) }

  pub relates : {r : Bool} {done rows' : List ℕ} → width ≤ width_limit → done ≡ cleared 0 0 rows
      → rows' ≡ vertices_joined first to ranks order width (length order) done → r ≡ vertices_closed first to ranks width (length ranks) rows'
      → Relates first to ranks order width rows r rows'
  relates {rows' = rows'} l d j c =
      let q = le-ltb width_limit width l in
      let s = j ∙ ap (vertices_joined first to ranks order width (length order)) d in
      record { rows_are = rw q s; answer = rw q c; is = λ e R. related order rows rows' R s (sym c ∙ e) }

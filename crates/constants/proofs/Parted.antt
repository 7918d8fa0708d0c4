-- The part of the order that is lent for a schema has all of its constants, each after those that it names.
use mathlib.Core.Path.{◌≡◌, refl, sym, ap, subst, ◌∙◌}
use mathlib.Core.Logic.{⊎_elim}
use mathlib.Core.Bool.{Bool, true, false, cond}
use mathlib.Core.List.Memᴰ
use mathlib.Core.List.{List, [], ◌∷◌, map, Memᴰ}
use Prim.Native.Nat.{ℕ, zero, suc, ◌+◌, ◌-◌, ◌≤◌, ◌<◌}
use native.Mathlib.Omega.{arith}
use borrow.Author.Tests.{eq-eqb, ltb-true, ltb-false}
use lib.Dec.{ltb}
use lib.ListN.{length, get_or, take, drop, length-take, length-drop, length-map}
use lib.Seq.{take_all, get_or-take, get_or-drop}
use Rattle.relations.specs.Select.{first_from}
use Rattle.relations.specs.Reach.{Joins}
use Rattle.relations.proofs.Select.{le_or, First, first_is, mem_keep, mem_upto}
use Rattle.express.specs.Syntax.NodeKind as node
use Rattle.express.specs.Syntax.Tree.{Table, count, kind, is_declaration, nodes}
use Rattle.express.specs.Names.Fault.{constant_edges}
use Rattle.constant_rows.specs.Parts.{schema_in, grouped}
use Rattle.schemas.specs.Rows.{OfFile, Part}
use Rattle.schemas.proofs.Held.{sorted_at}
use Rattle.constant_rows.proofs.Grouping.{schema_from, schema_upto, falls_not}
use Rattle.schemas.proofs.Answers.{map_there}

-- ---- places in a list
record Place (xs : List ℕ) (n c : ℕ) : Type 0 where
  where_it : ℕ
  before : where_it < n
  known : where_it < length xs
  there : get_or xs where_it 0 ≡ c

place_of : (xs : List ℕ) (n c : ℕ) → Memᴰ c (take n xs) → Place xs n c
place_of [] zero c m = absurd (Memᴰ.not-nil m)
place_of [] (suc n) c m = absurd (Memᴰ.not-nil m)
place_of (x ∷ xs) zero c m = absurd (Memᴰ.not-nil m)
place_of (x ∷ xs) (suc n) c (Memᴰ.head q) = record { where_it = 0; before = omega arith; known = omega arith; there = sym q }
place_of (x ∷ xs) (suc n) c (Memᴰ.tail m) =
    let p = place_of xs n c m in
    let b = p.before in
    let k = p.known in record { where_it = suc p.where_it; before = omega arith; known = omega arith; there = p.there }

mem_of : (xs : List ℕ) (n i c : ℕ) → i < n → i < length xs → get_or xs i 0 ≡ c → Memᴰ c (take n xs)
mem_of [] n i c b k e = absurd (omega arith)
mem_of (x ∷ xs) zero i c b k e = absurd (omega arith)
mem_of (x ∷ xs) (suc n) zero c b k e = Memᴰ.head (sym e)
mem_of (x ∷ xs) (suc n) (suc i) c b k e = Memᴰ.tail (mem_of xs n i c (omega arith) (omega arith) e)

-- ---- the part from one place up to another
module _ (order : List ℕ) (from to : ℕ) (l : from ≤ to) (k : to ≤ length order) where
  abbrev lent : List ℕ
  lent = take (to - from) (drop from order)

  lent_long : length lent ≡ to - from
  lent_long = omega (arith, length-take (to - from) (drop from order), length-drop from order)

  lent_at : (i : ℕ) → i < to - from → get_or lent i 0 ≡ get_or order (from + i) 0
  lent_at i h = get_or-take (to - from) (drop from order) i 0 h ∙ get_or-drop from order i 0

  -- what stands in the order at a place within the part stands in the part
  lent_mem : (p n c : ℕ) → from ≤ p → p < to → p < from + n → get_or order p 0 ≡ c → Memᴰ c (take n lent)
  lent_mem p n c a b g e =
      let q : from + (p - from) ≡ p = omega arith in
      mem_of lent n (p - from) c (omega arith) (omega (arith, lent_long)) (lent_at (p - from) (omega arith) ∙ ap (λ (x : ℕ). get_or order x 0) q ∙ e)

-- ---- where the part starts: behind what is before lo
pub record Started (order : List ℕ) (lo from : ℕ) : Type 0 where
  pub upto : from ≤ length order
  pub before : (p : ℕ) → p < from → get_or order p 0 < lo

pub started : (order : List ℕ) → Started order 0 0
started order = record { upto = omega arith; before = λ p h. absurd (omega arith) }

module _ {order : List ℕ} {lo from : ℕ} (S : Started order lo from) (n : ℕ) (b : Bool) {next : ℕ} (l : lo ≤ n + 1)
    (next_is : next ≡ cond b (first_from (λ i. ltb n (get_or order i 0)) from (length order - from)) from) where
  -- the next part starts with the first declaration behind n, or does not move
  first : b ≡ true → First (λ i. ltb n (get_or order i 0)) from (length order - from) next
  first h =
      subst (First (λ i. ltb n (get_or order i 0)) from (length order - from)) (sym (rw h at next_is)) (first_is (λ i. ltb n (get_or order i 0)) from (length order - from))

  stays : b ≡ false → next ≡ from
  stays h = rw h at next_is

  pub next_from : from ≤ next
  next_from = by b refl
    where
      by : (q : Bool) → b ≡ q → from ≤ next
      by true h = (first h).from
      by false h = omega (arith, stays h)

  pub next_upto : next ≤ length order
  next_upto = by b refl
    where
      by : (q : Bool) → b ≡ q → next ≤ length order
      by true h = omega (arith, (first h).upto, S.upto)
      by false h = omega (arith, stays h, S.upto)

  pub started_next : Started order (n + 1) next
  started_next = record { upto = next_upto; before = λ p h. by b refl p h }
    where
      earlier : (p : ℕ) → p < from → get_or order p 0 < n + 1
      earlier p a = let u = S.before p a in omega arith

      by : (q : Bool) → b ≡ q → (p : ℕ) → p < next → get_or order p 0 < n + 1
      by true e p h =
          ⊎_elim (λ (a : from ≤ p). let u = ltb-false n (get_or order p 0) ((first e).none p a h) in omega arith) (λ (a : p < from). earlier p a) (le_or from p)
      by false e p h = earlier p (omega (arith, stays e))

  module _ (kinds : List ℕ) (b_is : b ≡ true → grouped kinds order ≡ true) {to : ℕ} (to_is : to ≡ cond b next (length order)) where
    pub to_from : from ≤ to
    to_from = by b to_is
      where
        by : (b : Bool) → to ≡ cond b next (length order) → from ≤ to
        by true e = rw e next_from
        by false e = rw e S.upto

    pub to_upto : to ≤ length order
    to_upto = by b to_is
      where
        by : (b : Bool) → to ≡ cond b next (length order) → to ≤ length order
        by true e = rw e next_upto
        by false e = omega arith

    -- where it ends: what stands there, or further on, is of no schema up to n
    behind : (p : ℕ) → to ≤ p → p < length order → n < schema_in kinds (get_or order p 0)
    behind p a g = by b refl
      where
        by : (q : Bool) → b ≡ q → n < schema_in kinds (get_or order p 0)
        by true h =
            let f : to ≡ next = rw h at to_is in
            let s = length-map order (schema_in kinds) in
            let u = falls_not (length kinds) 0 (map (schema_in kinds) order) (b_is h) next p (omega (arith, f)) (omega (arith, s)) in
            let v = map_there (schema_in kinds) order next 0 0 (omega (arith, f)) in
            let w = map_there (schema_in kinds) order p 0 0 g in
            let x = ltb-true n (get_or order next 0) ((first h).passes (omega (arith, f, next_from))) in
            let y = schema_from kinds (get_or order next 0) in omega (arith, u, v, w, x, y)
        by false h = let f : to ≡ length order = rw h at to_is in absurd (omega (arith, f))

    -- THE PART OF A SCHEMA that ends with n
    pub parted :
        {t : Table} {bytes starts lengths terminals tokens sizes bindings declared : List ℕ} →
        OfFile t bytes starts lengths terminals kinds tokens sizes bindings declared order → n < count t → kind t n ≡ node.schema →
        Part t lo n (take (to - from) (drop from order))
    parted {t} O m h = record { sorted = sorted; complete = complete }
      where
        sorted : (i c : ℕ) → i < length (take (to - from) (drop from order)) → Joins (constant_edges t) (get_or (take (to - from) (drop from order)) i 0) c → lo ≤ c →
            Memᴰ c (take i (take (to - from) (drop from order)))
        sorted i c g e a =
            let z = lent_long order from to to_from to_upto in
            let d = lent_at order from to to_from to_upto i (omega (arith, g, z)) in
            let r = sorted_at O.ordered.sorted (from + i) c (omega (arith, g, z, to_upto)) (subst (λ (x : ℕ). Joins (constant_edges t) x c) d e) in
            let p = place_of order (from + i) c (⊎_elim (λ x. absurd (Memᴰ.not-nil x)) (λ x. x) r) in
            let j = p.where_it in
            let u : from ≤ j =
            ⊎_elim (λ (x : from ≤ j). x) (λ (x : j < from). let y = S.before j x in absurd (omega (arith, p.there))) (le_or from j) in
            let v = p.before in
            lent_mem order from to to_from to_upto j i c u (omega (arith, g, z)) v p.there

        complete : (c : ℕ) → lo ≤ c → c < n → kind t c ≡ node.constant → Memᴰ c (take (to - from) (drop from order))
        complete c a g k =
            let x = O.ordered.complete c (mem_keep (is_declaration t) (nodes t) (mem_upto (count t) c (omega arith)) (rw k)) in
            let p = place_of order (length order) c (rw (take_all (length order) order (omega arith)) x) in
            let j = p.where_it in
            let w = p.known in
            let u : from ≤ j =
            ⊎_elim (λ (y : from ≤ j). y) (λ (y : j < from). let q = S.before j y in absurd (omega (arith, p.there))) (le_or from j) in
            let v : j < to =
            ⊎_elim
            (λ (y : to ≤ j).
            let q = behind j y w in
            let s = schema_upto kinds c n (omega arith) (rw (← O.kinds_are) (eq-eqb (kind t n) node.schema h)) in
            absurd (omega (arith, q, s, ap (schema_in kinds) p.there)))
            (λ (y : j < to). y) (le_or to j) in
            rw (← take_all (to - from) (take (to - from) (drop from order)) (omega (arith, lent_long order from to to_from to_upto)))
            (lent_mem order from to to_from to_upto j (to - from) c u v (omega arith) p.there)

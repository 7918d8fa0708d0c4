-- For the callers: the answer of `topological_order` as a sorted list of the vertices.
use mathlib.Core.Path.{◌≡◌, refl, sym, ap}
use mathlib.Core.List.Memᴰ
use mathlib.Core.List.{List, [], ◌∷◌, Memᴰ}
use mathlib.Core.Logic.{⊎_elim, by_cases}
use Prim.Native.Nat.{ℕ, zero, suc, ◌+◌, ◌≤◌, ◌<◌}
use native.Mathlib.Omega.{arith}
use native.Mathlib.Decide.{ℕ_discrete}
use lib.ListN.{length, get_or, take, drop}
use lib.Seq.{drop-cons}
use Rattle.relations.proofs.Topological.{Sorted, done, next}
use Rattle.graph.specs.Graph.{vertices, Graph, Arc}
use Rattle.graph.proofs.Arcs.{arc_target}
use Rattle.cycles.specs.Answer.{Ordered}

-- what stands before n is among the first n
at_mem : (l : List ℕ) (k n : ℕ) → k < n → k < length l → Memᴰ (get_or l k 0) (take n l)
at_mem [] k n h i = absurd (omega arith)
at_mem (x ∷ l) k zero h i = absurd (omega arith)
at_mem (x ∷ l) zero (suc n) h i = Memᴰ.head refl
at_mem (x ∷ l) (suc k) (suc n) h i = Memᴰ.tail (at_mem l k n (omega arith) (omega arith))

mem_at : (l : List ℕ) (n v : ℕ) → Memᴰ v (take n l) → (k : ℕ) × (k < n) × (get_or l k 0 ≡ v)
mem_at l zero v m = absurd (Memᴰ.not-nil m)
mem_at [] (suc n) v m = absurd (Memᴰ.not-nil m)
mem_at (x ∷ l) (suc n) v m =
    ⊎_elim (λ q. (0, omega arith, sym q)) (λ t. let r = mem_at l n v t in (suc r.0, omega (arith, r.1), r.2)) (Memᴰ.cases_cons m)

module _ {first to : List ℕ} (order : List ℕ) (g : Graph first to) (room : vertices first ≤ length order) (o : Ordered first to order) where
  -- from place i on, where all before it have passed
  from_place : (r i : ℕ) (passed : List ℕ) → i + r ≡ vertices first → ((j : ℕ) → j < i → Memᴰ (get_or order j 0) passed) → Sorted (Arc first to) passed (take r (drop i order))
  from_place zero i passed q h = done
  from_place (suc r) i passed q h =
      let l : i < vertices first = omega arith in
      rw (drop-cons order i 0 (omega arith))
      (next {d = get_or order i 0}
      (λ c e.
      let x = o.all c (arc_target g e) in
      let y = x.2 in
      let k = o.after i x.0 l x.1 (rw y e) in
      Memᴰ.cast (sym y) (h x.0 k))
      (from_place r (suc i) (get_or order i 0 ∷ passed) (omega arith)
      (λ j k. by_cases (ℕ_discrete j i) (λ e. Memᴰ.head (ap (λ (z : ℕ). get_or order z 0) e)) (λ e. Memᴰ.tail (h j (omega (arith, e)))))))

  -- each vertex stands after all that it has arcs to
  pub order_sorted : Sorted (Arc first to) [] (take (vertices first) order)
  order_sorted = from_place (vertices first) 0 [] (omega arith) (λ j l. absurd (omega arith))

  -- all vertices are there, and nothing else
  pub order_complete : (v : ℕ) → v < vertices first → Memᴰ v (take (vertices first) order)
  order_complete v l =
      let x = o.all v l in
      Memᴰ.cast (sym x.2) (at_mem order x.0 (vertices first) x.1 (omega (arith, x.1)))

  pub order_among : (v : ℕ) → Memᴰ v (take (vertices first) order) → v < vertices first
  order_among v m = let x = mem_at order (vertices first) v m in omega (arith, x.2, o.low x.0 x.1)

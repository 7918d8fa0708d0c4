-- Vertices that lie on no cycle have an order in which each stands after all that it has an edge to: by how many vertices each reaches.
use mathlib.Core.Path.{◌≡◌, refl, subst}
use mathlib.Core.Logic.{◌⊎◌, inl, inr, ⊎_elim}
use mathlib.Core.List.Memᴰ
use mathlib.Core.List.{List, [], ◌∷◌, ◌++◌, flat_map, Memᴰ}
use Prim.Native.Nat.{ℕ, zero, suc, ◌-◌, ◌<◌}
use native.Mathlib.Omega.{arith}
use borrow.Author.Tests.{eqb-true, eq-eqb}
use lib.Dec.{eqb}
use lib.ListN.{length}
use Rattle.relations.specs.Select.{span, keep}
use Rattle.relations.specs.Reach.{Reaches, direct, onward, Edge, Joins, reaches}
pub use Rattle.relations.specs.Sorted.{Sorted, done, next, Arranged}
use Rattle.relations.proofs.Select.{untrue, mem_upto, keep_mem, mem_keep, keep_lt, keep_short, flat_mem, mem_flat}
use Rattle.relations.proofs.Reach.{reaches_iff}

-- in a list that is sorted by edges, what is reached has passed too, if what has passed has edges to nothing else
pub sorted_reaches :
    {E : ℕ → ℕ → Type 0} {passed ds : List ℕ} → ((a b : ℕ) → Memᴰ a passed → E a b → Memᴰ b passed) → Sorted E passed ds →
    Sorted (Reaches E) passed ds
sorted_reaches closed done = done
sorted_reaches {E} {passed} closed (next {d = d} h more) = next (λ c r. by r) (sorted_reaches wider more)
  where
    on : {a c : ℕ} → Memᴰ a passed → Reaches E a c → Memᴰ c passed
    on m (direct {a} {b} e) = closed a b m e
    on m (onward {a} {b} e r) = on (closed a b m e) r

    by : {c : ℕ} → Reaches E d c → Memᴰ c passed
    by (direct {b = b} e) = h b e
    by (onward {b = b} e r) = on (h b e) r

    wider : (a b : ℕ) → Memᴰ a (d ∷ passed) → E a b → Memᴰ b (d ∷ passed)
    wider a b m e =
        ⊎_elim (λ q. Memᴰ.tail (h b (subst (λ (x : ℕ). E x b) q e))) (λ m'. Memᴰ.tail (closed a b m' e)) (Memᴰ.cases_cons m)

-- by a relation that says more, a list that is sorted stays so
pub sorted_narrower : {E F : ℕ → ℕ → Type 0} {passed ds : List ℕ} → ((d c : ℕ) → Memᴰ d ds → E d c → F d c) → Sorted F passed ds → Sorted E passed ds
sorted_narrower w done = done
sorted_narrower w (next {d = d} h more) = next (λ c e. h c (w d c (Memᴰ.head refl) e)) (sorted_narrower (λ x c m e. w x c (Memᴰ.tail m) e) more)

-- vertices by rank, where an edge leads to a vertex of a smaller rank
module _ (E : ℕ → ℕ → Type 0) (vs : List ℕ) (rank : ℕ → ℕ) (falls : (d c : ℕ) → Memᴰ d vs → E d c → Memᴰ c vs × (rank c < rank d)) where
  abbrev ranked : ℕ → List ℕ
  ranked i = keep (λ v. eqb (rank v) i) vs

  -- all of a rank below i are among those passed
  abbrev Below : ℕ → List ℕ → Type 0
  Below i passed = (v : ℕ) → Memᴰ v vs → rank v < i → Memᴰ v passed

  -- those of rank i, of which bs are left
  one_rank :
      (i : ℕ) (bs rest passed : List ℕ) → ((d : ℕ) → Memᴰ d bs → Memᴰ d vs × (rank d ≡ i)) → Below i passed
      → ((v : ℕ) → Memᴰ v vs → rank v ≡ i → Memᴰ v passed ⊎ Memᴰ v bs)
      → ((p : List ℕ) → Below (suc i) p → Sorted E p rest) → Sorted E passed (bs ++ rest)
  one_rank i [] rest passed has low here more = more passed (λ v m l. by v m l (rank v - i) (i - rank v) refl refl)
    where
      by : (v : ℕ) → Memᴰ v vs → rank v < suc i → (a b : ℕ) → rank v - i ≡ a → i - rank v ≡ b → Memᴰ v passed
      by v m l (suc a) b e f = absurd (omega arith)
      by v m l zero zero e f = ⊎_elim (λ x. x) (λ x. absurd (Memᴰ.not-nil x)) (here v m (omega arith))
      by v m l zero (suc b) e f = low v m (omega arith)
  one_rank i (d ∷ bs) rest passed has low here more =
      let h = has d (Memᴰ.head refl) in
      next (λ c e. let f = falls d c h.0 e in low c f.0 (omega arith))
      (one_rank i bs rest (d ∷ passed) (λ x m. has x (Memᴰ.tail m)) (λ v m l. Memᴰ.tail (low v m l))
      (λ v m q. ⊎_elim (λ x. inl (Memᴰ.tail x)) (λ x. ⊎_elim (λ y. inl (Memᴰ.head y)) (λ y. inr y) (Memᴰ.cases_cons x)) (here v m q)) more)

  from_rank : (i d : ℕ) (passed : List ℕ) → Below i passed → Sorted E passed (flat_map ranked (span i d))
  unfolding flat_map span
  from_rank i zero passed low = done
  from_rank i (suc d) passed low =
      one_rank i (ranked i) (flat_map ranked (span (suc i) d)) passed
      (λ x m. let r = keep_mem (λ v. eqb (rank v) i) vs m in (r.0, eqb-true (rank x) i r.1)) low
      (λ v m q. inr (mem_keep (λ v. eqb (rank v) i) vs m (eq-eqb (rank v) i q))) (λ p b. from_rank (suc i) d p b)

  pub arranged : (n : ℕ) → ((v : ℕ) → Memᴰ v vs → rank v < n) → Arranged E vs (flat_map ranked (span 0 n))
  arranged n bound = record {
    sorted = from_rank 0 n [] (λ v m l. absurd (omega arith));
    complete = λ v m. mem_flat ranked (span 0 n) (mem_upto n (rank v) (bound v m)) (mem_keep (λ x. eqb (rank x) (rank v)) vs m (eq-eqb (rank v) (rank v) refl));
    among = λ v m. let r = flat_mem ranked (span 0 n) m in (keep_mem (λ x. eqb (rank x) r.0) vs r.2).0;
  }

-- vertices on no cycle, by how many vertices each reaches
pub acyclic_arranged :
    (es : List Edge) (vs : List ℕ) → ((a b : ℕ) → Joins es a b → Memᴰ a vs → Memᴰ b vs) → ((v : ℕ) → Memᴰ v vs → Reaches (Joins es) v v → ⊥)
    → Arranged (Joins es) vs (flat_map (λ i. keep (λ v. eqb (length (keep (reaches es v) vs)) i) vs) (span 0 (suc (length vs))))
acyclic_arranged es vs closed acyclic =
    arranged (Joins es) vs rank falls (suc (length vs)) (λ v m. let l = keep_short (reaches es v) vs in omega arith)
  where
    rank : ℕ → ℕ
    rank v = length (keep (reaches es v) vs)

    falls : (d c : ℕ) → Memᴰ d vs → Joins es d c → Memᴰ c vs × (rank c < rank d)
    falls d c m e =
        let l = closed d c e m in (
          l,
          keep_lt (reaches es c) (reaches es d) vs (λ x n h. (reaches_iff es d x).1 (onward e ((reaches_iff es c x).0 h))) l
              (untrue (reaches es c c) (λ h. acyclic c l ((reaches_iff es c c).0 h))) ((reaches_iff es d c).1 (direct e)),
        )

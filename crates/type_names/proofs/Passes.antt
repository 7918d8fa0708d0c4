-- The pass over the nodes of a file: one law for each step of its two loops.
use mathlib.Core.Path.{◌≡◌, refl, sym, ap, ◌∙◌}
use mathlib.Core.Logic.{⊎_elim, by_cases}
use mathlib.Core.Bool.{Bool, true, false, cond}
use mathlib.Core.List.{List, [], ◌∷◌, ◌++◌, Memᴰ}
use Prim.Native.Nat.{ℕ, ◌+◌, ◌-◌, ◌≤◌, ◌<◌}
use native.Mathlib.Omega.{arith}
use native.Mathlib.Decide.{ℕ_discrete}
use borrow.Author.Tests.{le-leb, lt-leb, leb-true}
use lib.Dec.{eqb, leb}
use lib.ListN.{length, get_or, set, length-set}
use lib.Seq.{get_or-set_same, get_or-set_other}
use Rattle.relations.specs.Select.{span}
use Rattle.relations.proofs.Select.{le_or, span_append, span_mem}
use Rattle.express.specs.Syntax.Tree.{Table, count}
use Rattle.express.specs.Names.Fault.{Fault, fine}
use Rattle.express.specs.Names.Names.{Stage, sooner, least}
use Rattle.express.proofs.Semantics.Backward.{least_step, least_end}
use Rattle.scopes.specs.Range.{vertex_count, node_of, range_start}
use Rattle.scopes.proofs.Ranges.{node_below, node_declares, range_next, range_rises, range_below}
use Rattle.faults.specs.Meaning.{fault_of}
use Rattle.dependencies.specs.Target.{behind_all}
use Rattle.dependencies.specs.Graph.{Room, Storing}
use Rattle.dependencies.proofs.Storing.{before_all, storing_passes, storing_adds, building_starts, building_range, building_goes_on}
use Rattle.dependencies.proofs.Built.{building_ends}
use Rattle.type_names.specs.Pass.{Pass, Finds, Skipped, Stored, Passing, RangeOf, PassesRange, WithinDeclarations, PassingFrom, PassedAll}
use Rattle.type_names.specs.declared.Finding.{Finding}
use Rattle.type_names.specs.declared.Progress.{Progress}

-- ---- the least fault of some nodes

module _ (s : Stage) where
  pub least_fine : (ns : List ℕ) → ((n : ℕ) → Memᴰ n ns → s n ≡ fine) → least s ns ≡ fine
  unfolding least
  least_fine [] h = refl
  least_fine (n ∷ ns) h = rw (h n (Memᴰ.head refl)) (least_fine ns (λ m i. h m (Memᴰ.tail i)))

  least_front : (ms ns : List ℕ) → least s ns ≡ fine → least s (ms ++ ns) ≡ least s ms
  unfolding least
  least_front [] ns e = e
  least_front (m ∷ ms) ns e = rw (least_front ms ns e)

  -- nodes that are fine, behind all others
  pub least_before : (n k : ℕ) → k ≤ n → ((i : ℕ) → k ≤ i → i < n → s i ≡ fine) → least s (span 0 n) ≡ least s (span 0 k)
  least_before n k l h =
      let a : n ≡ k + (n - k) = omega arith in
      let b : 0 + k ≡ k = omega arith in
      let c : span 0 n ≡ span 0 k ++ span k (n - k) = ap (span 0) a ∙ span_append 0 k (n - k) ∙ rw b in
      let f : least s (span k (n - k)) ≡ fine = least_fine (span k (n - k)) (λ i m. let r = span_mem k (n - k) i m in h i r.0 (omega (arith, r.1))) in
      ap (least s) c ∙ least_front (span 0 k) (span k (n - k)) f

-- ---- one node

-- a store keeps the lengths
module _ {n : ℕ} {f : Finding} {before : Progress} {bound to : List ℕ} {after : Progress} {bound' to' : List ℕ} (S : Stored n f before bound to after bound' to') where
  stored_bound : length bound' ≡ length bound
  stored_bound = ap length S.bound_is ∙ length-set bound n f.binding

  stored_to : length to' ≡ length to
  stored_to = ap length S.added.to_is ∙ by (eqb f.target 0)
    where
      by : (b : Bool) → length (cond b to (set to (before.arcs - 1) (f.target - 1))) ≡ length to
      by true = refl
      by false = length-set to (before.arcs - 1) (f.target - 1)

-- a test of a range one node longer, at the other nodes
leb_other : (j n : ℕ) → 0 < j → (n ≡ j - 1 → ⊥) → leb (j - 1) n ≡ leb j n
leb_other j n h d =
    ⊎_elim (λ (l : j ≤ n). le-leb (j - 1) n (omega arith) ∙ sym (le-leb j n l)) (λ (l : n < j). lt-leb (j - 1) n (omega (arith, d)) ∙ sym (lt-leb j n l)) (le_or j n)

behind_below : (t : Table) → behind_all t ≤ count t
behind_below t = range_below t (vertex_count t) (omega arith)

module _ {t : Table} {p : Pass} {was : List ℕ} {j : ℕ} {so_far : Progress} {bound to : List ℕ} (P : Passing t p was j so_far bound to) (some : 0 < j) where
  module _ (low : j - 1 < behind_all t) where
    known : j - 1 < count t
    known = omega (arith, low, behind_below t)

    least_more : least p.stage (span (j - 1) (behind_all t - (j - 1))) ≡ sooner (p.stage (j - 1)) (fault_of so_far.least)
    least_more =
        let back : j - 1 + 1 ≡ j = omega arith in
        least_step (behind_all t) p.stage (j - 1) low
        ∙ ap (λ (k : ℕ). sooner (p.stage (j - 1)) (least p.stage (span k (behind_all t - k)))) back
        ∙ ap (sooner (p.stage (j - 1))) (sym P.least_is)

    entry_other :
        (n : ℕ) → n < count t → (n ≡ j - 1 → ⊥) → (x : ℕ) → x ≡ get_or bound n 0 → x ≡ cond (leb (j - 1) n) (p.entry n) (p.entry_before n)
    entry_other n l d x e = rw (leb_other j n some d) (e ∙ P.entries n l)

    entry_own : (n : ℕ) → n ≡ j - 1 → (x : ℕ) → x ≡ p.entry n → x ≡ cond (leb (j - 1) n) (p.entry n) (p.entry_before n)
    entry_own n q x e = rw (le-leb (j - 1) n (omega (arith, q))) e

    skips : Skipped p (j - 1) → Storing t p.target was (j - 1) so_far.arcs to → Passing t p was (j - 1) so_far bound to
    skips K S =
        record {
          least_is = sym (least_more ∙ ap (λ (f : Fault). sooner f (fault_of so_far.least)) K.fault_none);
          storing = S;
          room = P.room;
          entries = λ n l.
              by_cases (ℕ_discrete n (j - 1))
              (λ q.
              let a : leb j n ≡ false = lt-leb j n (omega (arith, q)) in
              let b : get_or bound n 0 ≡ p.entry_before n = P.entries n l ∙ rw a in
              let c : p.entry n ≡ p.entry_before n = rw q K.entry_kept in
              entry_own n q _ (b ∙ sym c)) (λ q. entry_other n l q _ refl);
        }

  module _ (v : ℕ) (l : v < vertex_count t) (upto : j ≤ node_of t v) where
    before_end : j - 1 < behind_all t
    before_end = omega (arith, before_all t v l)

    pub passing_skips : Skipped p (j - 1) → Passing t p was (j - 1) so_far bound to
    passing_skips K = skips before_end K (storing_passes P.storing v l some upto K.target_none)

    pub passing_stores :
        {f : Finding} {after : Progress} {bound' to' : List ℕ} → Finds p (j - 1) f → Stored (j - 1) f so_far bound to after bound' to' → Passing t p was (j - 1) after bound' to'
    passing_stores {f} {after} {bound'} {to'} F S =
        record {
          least_is = S.least_is ∙ ap (λ (g : Fault). sooner g (fault_of so_far.least)) F.fault_is ∙ sym (least_more before_end);
          storing = storing_adds P.storing v l some upto (rw F.target_is at S.added);
          room = omega (arith, P.room, stored_bound S);
          entries = λ n h.
              let e : get_or bound' n 0 ≡ get_or (set bound (j - 1) f.binding) n 0 = ap (λ (c : List ℕ). get_or c n 0) S.bound_is in
              by_cases (ℕ_discrete n (j - 1))
              (λ q.
              let a : get_or (set bound (j - 1) f.binding) (j - 1) 0 ≡ f.binding = get_or-set_same bound (j - 1) f.binding 0 (omega (arith, P.room, known before_end)) in
              let b : get_or (set bound (j - 1) f.binding) n 0 ≡ f.binding = ap (λ (i : ℕ). get_or (set bound (j - 1) f.binding) i 0) q ∙ a in
              entry_own before_end n q _ (e ∙ b ∙ F.entry_is ∙ ap p.entry (sym q)))
              (λ q. entry_other before_end n h q _ (e ∙ get_or-set_other bound (j - 1) n f.binding 0 q));
        }

-- a node that is not passed yet
pub entry_ahead :
    {t : Table} {p : Pass} {was : List ℕ} {i : ℕ} {so_far : Progress} {bound to : List ℕ} → Passing t p was i so_far bound to → (n : ℕ) → n < i → n < count t →
    get_or bound n 0 ≡ p.entry_before n
entry_ahead {i = i} P n h l = P.entries n l ∙ rw (lt-leb i n h)

-- ---- the loop over the nodes of one declaration

pub record PassingRange (Asked : Table → ℕ → Type 0) (pass : Table → Pass) (lo hi : ℕ) (before : Progress) (bound to : List ℕ) (i : ℕ) (after : Progress) (bound' to' : List ℕ) : Type 0 where
  pub upto : i ≤ hi
  pub from : (t : Table) (v : ℕ) → RangeOf t v lo hi → Asked t v → lo ≤ i
  pub bound_long : length bound' ≡ length bound
  pub to_long : length to' ≡ length to
  pub passes : PassesRange Asked pass lo hi before bound to i after bound' to'

module _ {Asked : Table → ℕ → Type 0} {pass : Table → Pass} {lo hi : ℕ} {before : Progress} {bound to : List ℕ} where
  -- from an index that is the range's end, where it is asked of a file
  pub range_starts : {i : ℕ} → i ≤ hi → ((t : Table) (v : ℕ) → RangeOf t v lo hi → Asked t v → hi ≤ i) → PassingRange Asked pass lo hi before bound to i before bound to
  range_starts {i} u h =
      record {
        upto = u;
        from = λ t v R A. omega (arith, R.from_is, R.upto_is, range_rises t v R.number, h t v R A);
        bound_long = refl;
        to_long = refl;
        passes = record { is = λ t was v R A P. let q : i ≡ hi = omega (arith, h t v R A) in rw q P };
      }

  module _ {i : ℕ} {so_far : Progress} {bound' to' : List ℕ} (G : PassingRange Asked pass lo hi before bound to i so_far bound' to') where
    module _ (more : lo < i) where
      upto_node : {t : Table} {v : ℕ} → RangeOf t v lo hi → i ≤ node_of t v
      upto_node R = omega (arith, R.upto_is, G.upto)

      -- a node of which nothing is to be found
      pub range_skips :
          ((t : Table) (v : ℕ) → RangeOf t v lo hi → Asked t v → Skipped (pass t) (i - 1)) → PassingRange Asked pass lo hi before bound to (i - 1) so_far bound' to'
      range_skips K =
          record {
            upto = omega (arith, G.upto);
            from = λ t v R A. omega arith;
            bound_long = G.bound_long;
            to_long = G.to_long;
            passes = record { is = λ t was v R A P. passing_skips (G.passes.is t was v R A P) (omega arith) v R.number (upto_node R) (K t v R A) };
          }

      -- a node of which what is found is stored; its entry was as before the pass
      pub range_stores :
          {f : Finding} {after : Progress} {bound'' to'' : List ℕ} →
          ((t : Table) (v : ℕ) → RangeOf t v lo hi → Asked t v → get_or bound' (i - 1) 0 ≡ (pass t).entry_before (i - 1) → Finds (pass t) (i - 1) f) →
          Stored (i - 1) f so_far bound' to' after bound'' to'' → PassingRange Asked pass lo hi before bound to (i - 1) after bound'' to''
      range_stores F S =
          record {
            upto = omega (arith, G.upto);
            from = λ t v R A. omega arith;
            bound_long = stored_bound S ∙ G.bound_long;
            to_long = stored_to S ∙ G.to_long;
            passes = record {
              is = λ t was v R A P.
                  let Q = G.passes.is t was v R A P in
                  let u = upto_node R in
                  passing_stores Q (omega arith) v R.number u (F t v R A (entry_ahead Q (i - 1) (omega arith) (omega (arith, node_below t v R.number)))) S;
            };
          }

    pub range_ends : i ≤ lo → PassesRange Asked pass lo hi before bound to lo so_far bound' to'
    range_ends d =
        record {
          is = λ t was v R A P.
              let q : i ≡ lo = omega (arith, G.from t v R A, d) in
              rw q at (G.passes.is t was v R A P);
        }

-- ---- the loop over the declarations

pub record PassingFile (Asked : Table → Type 0) (pass : Table → Pass) (bound₀ first₀ was : List ℕ) (v : ℕ) (first : List ℕ) (so_far : Progress) (bound to : List ℕ) : Type 0 where
  pub bound_long : length bound ≡ length bound₀
  pub first_long : length first ≡ length first₀
  pub to_long : length to ≡ length was
  pub is : (t : Table) → Asked t → PassingFrom t (pass t) was v first so_far bound to

module _ {Asked : Table → Type 0} {pass : Table → Pass} (within : (t : Table) → Asked t → WithinDeclarations t (pass t)) where
  pub file_starts :
      {first bound to : List ℕ} {v : ℕ} {so_far : Progress} → v ≡ length first - 1 → so_far.arcs ≡ length to → fault_of so_far.least ≡ fine →
      ((t : Table) → Asked t → Room t (pass t).target (length first) (length to)) → ((t : Table) → Asked t → count t ≤ length bound) →
      ((t : Table) → Asked t → (n : ℕ) → n < count t → get_or bound n 0 ≡ (pass t).entry_before n) → PassingFile Asked pass bound first to v first so_far bound to
  file_starts {first} {bound} {to} {v} {so_far} e a f R b z =
      record {
        bound_long = refl;
        first_long = refl;
        to_long = refl;
        is = λ t A.
            let p = pass t in
            let B = building_starts first to v so_far.arcs e a (R t A) in
            let q : v ≡ vertex_count t = omega (arith, (R t A).offsets_are) in
            let s : range_start t v ≡ behind_all t = ap (range_start t) q in
            record {
              passing = record {
                least_is = rw s (f ∙ sym (least_end (behind_all t) p.stage));
                storing = B.storing;
                room = b t A;
                entries = λ n l. z t A n l ∙ by p (leb (range_start t v) n) n (λ i. (within t A).behind n (omega (arith, leb-true (range_start t v) n i, s)) l);
              };
              building = B;
            };
      }
    where
      by : (p : Pass) (d : Bool) (n : ℕ) → (d ≡ true → Skipped p n) → p.entry_before n ≡ cond d (p.entry n) (p.entry_before n)
      by p true n h = sym (h refl).entry_kept
      by p false n h = refl

  module _ {bound₀ first₀ was : List ℕ} {v : ℕ} {first : List ℕ} {so_far : Progress} {bound to : List ℕ} (G : PassingFile Asked pass bound₀ first₀ was v first so_far bound to)
      {x : ℕ} {first' : List ℕ} (n : so_far.arcs < 4294967296 → x ≡ so_far.arcs) where
    -- from one declaration to the one before it
    pub file_goes_on :
        {RangeAsked : Table → ℕ → Type 0} {lo hi : ℕ} {after : Progress} {bound' to' : List ℕ} → first' ≡ set first v x → 0 < v →
        ((t : Table) → Asked t → v - 1 < vertex_count t → RangeOf t (v - 1) lo hi × RangeAsked t (v - 1)) →
        PassesRange RangeAsked pass lo hi so_far bound to lo after bound' to' → length bound' ≡ length bound → length to' ≡ length to →
        PassingFile Asked pass bound₀ first₀ was (v - 1) first' after bound' to'
    file_goes_on {lo = lo} {hi = hi} {after = after} {bound' = bound'} {to' = to'} s h ranges R bl tl =
        record {
          bound_long = bl ∙ G.bound_long;
          first_long = ap length s ∙ length-set first v x ∙ G.first_long;
          to_long = tl ∙ G.to_long;
          is = λ t A.
              let F = G.is t A in
              let B = F.building in
              let W = within t A in
              let u = v - 1 in
              let l : u < vertex_count t = omega (arith, B.within) in
              let b : v ≡ u + 1 = omega arith in
              let q : range_start t v ≡ node_of t u + 1 = ap (range_start t) b ∙ range_next t u in
              let back : range_start t v - 1 ≡ node_of t u = omega (arith, q) in
              let D = W.declared (node_of t u) (node_declares t u l) in
              let S = building_range B W.targets h in
              let N : Passing t (pass t) was (node_of t u) so_far bound to =
              rw back at (skips F.passing (omega (arith, q)) (omega (arith, back, before_all t u l)) (rw back D) (rw back S)) in
              let r = ranges t A l in
              let M : Passing t (pass t) was lo after bound' to' = R.is t was u r.0 r.1 (rw r.0.upto_is N) in
              let L : Passing t (pass t) was (range_start t u) after bound' to' = rw r.0.from_is at M in
              record { passing = L; building = building_goes_on B h n s L.storing };
        }

    -- THE END: all nodes are passed
    pub file_ends : first' ≡ set first 0 x → v ≤ 0 → (t : Table) → Asked t → PassedAll t (pass t) so_far.least bound first' to
    file_ends s d t A = at (G.is t A) (omega arith)
      where
        at : PassingFrom t (pass t) was v first so_far bound to → v ≡ 0 → PassedAll t (pass t) so_far.least bound first' to
        at F e =
            let W = within t A in
            let P : Passing t (pass t) was 0 so_far bound to = rw (ap (range_start t) e) at F.passing in
            let z : behind_all t - 0 ≡ behind_all t = omega arith in
            let c = least_before (pass t).stage (count t) (behind_all t) (behind_below t) (λ i a b. (W.behind i a b).fault_none) in
            record {
              reply = P.least_is ∙ rw z (sym c);
              entries = λ n l. P.entries n l ∙ rw (le-leb 0 n (omega arith));
              graph = building_ends W.targets (rw e at F.building) n s;
            }

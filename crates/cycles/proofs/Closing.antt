-- Closing the last group: its vertices are the strongly connected component of the end of the path.
use mathlib.Core.Path.{◌≡◌, refl, sym, ap, ◌∙◌}
use mathlib.Core.List.{List}
use mathlib.Core.Logic.{◌⊎◌, inl, inr, ⊎_elim, by_cases}
use Prim.Native.Nat.{ℕ, ◌+◌, ◌-◌, ◌≤◌, ◌<◌}
use native.Mathlib.Omega.{arith}
use native.Mathlib.Decide.{ℕ_discrete, dec_lt}
use lib.ListN.{get_or}
use Rattle.graph.specs.Graph.{Arc}
use Rattle.graph.specs.Mark.{flag}
use Rattle.graph.proofs.Nonzero.{flag_one, nonzero_agree}
use Rattle.graph.proofs.Arcs.{arc_target, arc_below}
use Rattle.cycles.specs.State.{State}
use Rattle.cycles.specs.Component.{Leads, Components}
use Rattle.cycles.specs.Search.{start, Opened, Settled, Passed, Search}
use Rattle.cycles.specs.Step.{top, ToClose}
use Rattle.cycles.proofs.Cell.{closing, ClosedBy}
use Rattle.cycles.proofs.Keep.{line_keep}
use Rattle.cycles.proofs.Line.{start_last, path_close}

module _ {first to : List ℕ} {σ : State} {group' place' : ℕ → ℕ} {n root height depth groups finished from : ℕ}
    (S : Search first to σ n root height depth groups finished) (t : ToClose first σ depth groups from)
    (c : ClosedBy σ group' place' from height finished) where
  upto : from < height
  upto = omega (arith, t.place, S.line.low (depth - 1) (omega (arith, t.some)))

  starts : start σ (groups - 1) ≡ from
  starts = ap (λ (k : ℕ). σ.path k) t.starts ∙ sym t.place

  some_bound : 0 < groups
  some_bound = S.line.bound_some t.some

  -- the vertices of the group, and all others
  record In (v : ℕ) : Type 0 where
    pub index : ℕ
    pub from_there : from ≤ index
    pub below : index < height
    pub is : σ.stack index ≡ v

  abbrev Out : ℕ → Type 0
  Out v = (i : ℕ) → from ≤ i → i < height → σ.stack i ≡ v → ⊥

  in_or_out : (v : ℕ) → v < n → In v ⊎ Out v
  in_or_out v l =
      by_cases (ℕ_discrete (σ.group v) 1)
      (λ q.
      by_cases (dec_lt (σ.place v) from)
      (λ k. inr (λ i f g e. omega (arith, S.opened.back i g, ap (λ (x : ℕ). σ.place x) e)))
      (λ k. inl (record { index = σ.place v; from_there = omega (arith, k); below = S.opened.found v l q; is = S.opened.is v l q })))
      (λ q. inr (λ i f g e. q (ap (λ (x : ℕ). σ.group x) (sym e) ∙ S.opened.mark i g)))

  closed_out : (v : ℕ) → 2 ≤ σ.group v → Out v
  closed_out v h i f g e = omega (arith, S.opened.mark i g, ap (λ (x : ℕ). σ.group x) e)

  before_out : (i : ℕ) → i < from → Out (σ.stack i)
  before_out i l k f g e = omega (arith, upto, S.opened.back i (omega (arith, upto)), S.opened.back k g, ap (λ (x : ℕ). σ.place x) e)

  in_group : (v : ℕ) (i : In v) → group' v ≡ finished + 2
  in_group v i = ap (λ (x : ℕ). group' x) (sym i.is) ∙ c.group_in i.index i.from_there i.below

  in_place : (v : ℕ) (i : In v) → place' v ≡ finished + (i.index - from)
  in_place v i = ap (λ (x : ℕ). place' x) (sym i.is) ∙ c.place_in i.index i.from_there i.below

  in_was : (v : ℕ) (i : In v) → σ.group v ≡ 1
  in_was v i = ap (λ (x : ℕ). σ.group x) (sym i.is) ∙ S.opened.mark i.index i.below

  -- a vertex that is closed now was closed, or is one of the group
  record Old (v : ℕ) : Type 0 where
    pub closed : 2 ≤ σ.group v
    pub group_kept : group' v ≡ σ.group v
    pub place_kept : place' v ≡ σ.place v

  old : (v : ℕ) → 2 ≤ σ.group v → Old v
  old v h = record { closed = h; group_kept = c.group_out v (closed_out v h); place_kept = c.place_out v (closed_out v h) }

  cases : (v : ℕ) → v < n → 2 ≤ group' v → Old v ⊎ In v
  cases v l h = ⊎_elim (λ i. inr i) (λ o. inl (old v (omega (arith, c.group_out v o)))) (in_or_out v l)

  -- a group that was there has a smaller number
  old_low : (v : ℕ) → v < n → Old v → (σ.place v < finished) × (σ.group v < finished + 2)
  old_low v l o =
      let k = S.components.place_low v l o.closed in
      (k, omega (arith, k, S.components.starts v l o.closed))

  -- an arc of a vertex of the group leads to the group, or to a vertex that was closed
  arcs : (v w : ℕ) → v < n → In v → Arc first to v w → Old w ⊎ In w
  arcs v w l i a =
      let j = i.index in
      let q = i.is in
      let lw : w < n = omega (arith, S.count, arc_target S.graph a) in
      let all : get_or first (v + 1) 0 ≤ σ.next_arc v =
      ⊎_elim (λ h. rw q at h)
      (λ h.
      let end : h.0 ≡ depth - 1 =
      by_cases (ℕ_discrete h.0 (depth - 1)) (λ z. z)
      (λ z. absurd (omega (arith, t.place, i.from_there, h.2, S.line.rise h.0 (depth - 1) (omega (arith, z, h.1)) (omega (arith, t.some))))) in
      let z : σ.path (depth - 1) ≡ j = ap (λ (x : ℕ). σ.path x) (sym end) ∙ h.2 in
      let y : top σ depth ≡ v = ap (λ (x : ℕ). σ.stack x) z ∙ q in
      rw y at t.spent)
      (S.passed.spent j i.below) in
      let r : get_or first (σ.stack j) 0 ≡ get_or first v 0 = ap (λ (x : ℕ). get_or first x 0) q in
      let u : σ.next_arc (σ.stack j) ≡ σ.next_arc v = ap (λ (x : ℕ). σ.next_arc x) q in
      let z : Settled σ groups j w = rw a.target at (S.passed.settled j a.place i.below (omega (arith, a.from, r)) (omega (arith, a.upto, all, u))) in
      ⊎_elim (λ h. inl (old w h))
      (λ h.
      let k = h.1 (groups - 1) (omega (arith, some_bound)) (omega (arith, starts, i.from_there)) in
      inr (record { index = σ.place w; from_there = omega (arith, starts, k); below = S.opened.found w lw h.0; is = S.opened.is w lw h.0 })) z

  -- vertices of the group lead to each other
  group_leads : (v w : ℕ) → In v → In w → Leads (Arc first to) v w
  group_leads v w i j =
      let r = S.leads i.index j.index i.below j.below (λ g l h. omega (arith, start_last S.line g l, starts, j.from_there)) in
      let p = i.is in
      let q = j.is in
      rw (p, q) at r

  components : Components first to (closing σ group' place') n (finished + (height - from))
  components =
      let C = S.components in
      record {
        place_low =
            λ v l h.
            ⊎_elim (λ o. omega (arith, o.place_kept, (old_low v l o).0)) (λ i. omega (arith, in_place v i, i.below, i.from_there)) (cases v l h);
        starts =
            λ v l h.
            ⊎_elim (λ o. omega (arith, o.place_kept, o.group_kept, C.starts v l o.closed)) (λ i. omega (arith, in_place v i, in_group v i)) (cases v l h);
        ranges =
            λ v w l k h j q.
            ⊎_elim
            (λ o.
            ⊎_elim
            (λ x. omega (arith, o.group_kept, x.group_kept, x.place_kept, C.ranges v w l k o.closed x.closed (omega (arith, o.group_kept, x.group_kept))))
            (λ x. absurd (omega (arith, o.group_kept, in_group w x, (old_low v l o).1))) (cases w k j))
            (λ i.
            ⊎_elim (λ x. omega (arith, in_group v i, x.place_kept, (old_low w k x).0))
            (λ x. absurd (omega (arith, in_group v i, in_group w x))) (cases w k j)) (cases v l h);
        once =
            λ v w l k h j q.
            ⊎_elim
            (λ o.
            ⊎_elim (λ x. C.once v w l k o.closed x.closed (sym o.place_kept ∙ q ∙ x.place_kept))
            (λ x. absurd (omega (arith, o.place_kept, in_place w x, (old_low v l o).0))) (cases w k j))
            (λ i.
            ⊎_elim (λ x. absurd (omega (arith, x.place_kept, in_place v i, (old_low w k x).0)))
            (λ x.
            let e : i.index ≡ x.index = omega (arith, in_place v i, in_place w x, i.from_there, x.from_there) in
            sym i.is ∙ ap (λ (z : ℕ). σ.stack z) e ∙ x.is) (cases w k j)) (cases v l h);
        all =
            λ k l.
            by_cases (dec_lt k finished)
            (λ h. let x = C.all k h in let o = old x.0 x.2 in (x.0, x.1, omega (arith, o.group_kept, x.2), o.place_kept ∙ x.3))
            (λ h.
            let i = from + (k - finished) in
            let f : from ≤ i = omega arith in
            let g : i < height = omega (arith, upto, h) in
            (σ.stack i, S.opened.low i g, omega (arith, c.group_in i f g), omega (arith, c.place_in i f g, h)));
        falls =
            λ v w l h a.
            ⊎_elim
            (λ o.
            let z = C.falls v w l o.closed a in
            let x = old w z.0 in
            (omega (arith, x.group_kept, z.0), omega (arith, x.group_kept, o.group_kept, z.1)))
            (λ i.
            let lw : w < n = omega (arith, S.count, arc_target S.graph a) in
            ⊎_elim (λ x. (omega (arith, x.group_kept, x.closed), omega (arith, x.group_kept, in_group v i, (old_low w lw x).1)))
            (λ x. (omega (arith, in_group w x), omega (arith, in_group v i, in_group w x))) (arcs v w l i a)) (cases v l h);
        leads =
            λ v w l k h j q.
            ⊎_elim
            (λ o.
            ⊎_elim (λ x. C.leads v w l k o.closed x.closed (sym o.group_kept ∙ q ∙ x.group_kept))
            (λ x. absurd (omega (arith, o.group_kept, in_group w x, (old_low v l o).1))) (cases w k j))
            (λ i.
            ⊎_elim (λ x. absurd (omega (arith, x.group_kept, in_group v i, (old_low w k x).1)))
            (λ x. group_leads v w i x) (cases w k j)) (cases v l h);
      }

  opened : Opened (closing σ group' place') n from
  opened =
      let was : (v : ℕ) → v < n → group' v ≡ 1 → Out v = λ v l h. ⊎_elim (λ i. absurd (omega (arith, in_group v i))) (λ o. o) (in_or_out v l) in
      record {
        low = λ i l. S.opened.low i (omega (arith, upto));
        mark = λ i l. c.group_out (σ.stack i) (before_out i l) ∙ S.opened.mark i (omega (arith, upto));
        back = λ i l. c.place_out (σ.stack i) (before_out i l) ∙ S.opened.back i (omega (arith, upto));
        found =
            λ v l h.
            let o = was v l h in
            let h' = sym (c.group_out v o) ∙ h in
            by_cases (dec_lt (σ.place v) from) (λ k. omega (arith, k, c.place_out v o))
            (λ k. absurd (o (σ.place v) (omega (arith, k)) (S.opened.found v l h') (S.opened.is v l h')));
        is =
            λ v l h.
            let o = was v l h in
            let q = c.place_out v o in
            rw q (S.opened.is v l (sym (c.group_out v o) ∙ h));
      }

  passed : Passed first to (closing σ group' place') from (depth - 1) (groups - 1)
  passed =
      record {
        low = λ i l. S.passed.low i (omega (arith, upto));
        high = λ i l. S.passed.high i (omega (arith, upto));
        settled =
            λ i e l h k.
            let ls : i < height = omega (arith, upto) in
            let w = get_or to e 0 in
            let lw : w < n = omega (arith, S.count, arc_below S.graph (σ.stack i) e (omega (arith, S.count, S.opened.low i ls)) h (omega (arith, k, S.passed.high i ls))) in
            ⊎_elim (λ x. inl (omega (arith, (old w x).group_kept)))
            (λ x.
            ⊎_elim (λ y. inl (omega (arith, in_group w y)))
            (λ o.
            let q = c.place_out w o in
            inr (c.group_out w o ∙ x.0, λ g f z. rw q (x.1 g (omega arith) z))) (in_or_out w lw))
            (S.passed.settled i e ls h k);
        spent =
            λ i l.
            ⊎_elim (λ h. inl h)
            (λ h.
            by_cases (ℕ_discrete h.0 (depth - 1))
            (λ q. absurd (omega (arith, t.place, h.2, ap (λ (x : ℕ). σ.path x) q)))
            (λ q. inr (h.0, omega (arith, q, h.1), h.2)))
            (S.passed.spent i (omega (arith, upto)));
      }

  pub search_close : Search first to (closing σ group' place') n root from (depth - 1) (groups - 1) (finished + (height - from))
  search_close =
      let here = t.place in
      record {
        graph = S.graph;
        count = S.count;
        counted =
            omega (
              arith,
              upto,
              S.counted,
              nonzero_agree σ.group group' n
                  (λ v l.
                  ⊎_elim (λ i. flag_one (group' v) (omega (arith, in_group v i)) ∙ sym (flag_one (σ.group v) (omega (arith, in_was v i))))
                  (λ o. ap flag (c.group_out v o)) (in_or_out v l)),
            );
        root_low = S.root_low;
        roots =
            λ v l.
            ⊎_elim (λ i. omega (arith, in_group v i)) (λ o. omega (arith, c.group_out v o, S.roots v l)) (in_or_out v (omega (arith, S.root_low)));
        opened = opened;
        line = line_keep {σ = σ} (closing σ group' place') refl refl (rw here (path_close S.line t.some t.starts));
        passed = passed;
        leads =
            λ i j li lj h.
            S.leads i j (omega (arith, upto)) (omega (arith, upto))
            (λ g l f. by_cases (ℕ_discrete g (groups - 1)) (λ e. absurd (omega (arith, starts, ap (λ (x : ℕ). start σ x) e))) (λ e. h g (omega (arith, e)) f));
        components = components;
      }

-- The steps that enter and close no vertex: a root that was seen, a join of groups, an arc that is passed, a vertex that leaves the path.
use mathlib.Core.Path.{◌≡◌, refl, sym, ap, ◌∙◌}
use mathlib.Core.List.{List}
use mathlib.Core.Logic.{inl, inr, ⊎_elim, by_cases}
use Prim.Native.Nat.{ℕ, ◌+◌, ◌-◌, ◌≤◌, ◌<◌}
use native.Mathlib.Omega.{arith}
use native.Mathlib.Decide.{ℕ_discrete, dec_lt}
use lib.ListN.{get_or}
use Rattle.graph.specs.Graph.{Arc}
use Rattle.graph.proofs.Arcs.{arc_target}
use Rattle.cycles.specs.State.{State}
use Rattle.cycles.specs.Component.{Leads, goes}
use Rattle.cycles.specs.Search.{start, Within, Search}
use Rattle.cycles.specs.Step.{ToSkip, ToJoin, ToPass, ToLeave}
use Rattle.cycles.proofs.Cell.{Put, with_arcs}
use Rattle.cycles.proofs.Keep.{leads_arc, reaches_leads, components_keep, opened_arcs, line_keep}
use Rattle.cycles.proofs.Line.{start_last, within_top, path_join, path_leave}

module _ {first to : List ℕ} {σ : State} {n root height depth groups finished : ℕ} (S : Search first to σ n root height depth groups finished) where
  pub search_skip : ToSkip first σ root depth → Search first to σ n (root + 1) height depth groups finished
  search_skip t =
      record {
        graph = S.graph;
        count = S.count;
        counted = S.counted;
        root_low = omega (arith, S.count, t.low);
        roots = λ v l. by_cases (ℕ_discrete v root) (λ e. rw e (omega (arith, t.seen))) (λ e. S.roots v (omega (arith, e)));
        opened = S.opened;
        line = S.line;
        passed = S.passed;
        leads = S.leads;
        components = S.components;
      }

  -- the place of the end of the path
  end_low : 0 < depth → σ.path (depth - 1) < height
  end_low h = S.line.low (depth - 1) (omega arith)

  join_leads : ToJoin first to σ depth groups → (i j : ℕ) → i < height → j < height → Within σ (groups - 1) i j → Leads (Arc first to) (σ.stack i) (σ.stack j)
  join_leads t i j li lj h =
      by_cases (dec_lt i (start σ (groups - 1)))
      (λ l.
      S.leads i j li lj
      (λ g k f.
      by_cases (ℕ_discrete g (groups - 1)) (λ e. absurd (omega (arith, ap (λ (z : ℕ). start σ z) e)))
      (λ e. h g (omega (arith, e)) f)))
      (λ l.
      let w = t.target in
      let lw : w < n = omega (arith, S.count, arc_target S.graph t.arc) in
      let up = S.leads i (σ.path (depth - 1)) li (end_low t.some) (within_top S.line i) in
      let q : σ.stack (σ.place w) ≡ w = S.opened.is w lw t.opened in
      let down : Leads (Arc first to) (σ.stack (σ.place w)) (σ.stack j) =
      S.leads (σ.place w) j (S.opened.found w lw t.opened) lj
      (λ g k f.
      by_cases (ℕ_discrete g (groups - 1)) (λ e. absurd (omega (arith, ap (λ (z : ℕ). start σ z) e, t.back)))
      (λ e. h g (omega (arith, e)) (omega (arith, start_last S.line g k, l)))) in
      goes (reaches_leads (leads_arc up t.arc) (rw q at down)))

  pub search_join : ToJoin first to σ depth groups → Search first to σ n root height depth (groups - 1) finished
  search_join t =
      record {
        graph = S.graph;
        count = S.count;
        counted = S.counted;
        root_low = S.root_low;
        roots = S.roots;
        opened = S.opened;
        line = path_join S.line t.some (σ.place t.target) t.back;
        passed =
            record {
              low = S.passed.low;
              high = S.passed.high;
              settled =
                  λ i e l h k.
                  ⊎_elim (λ c. inl c) (λ c. inr (c.0, λ g f z. c.1 g (omega arith) z)) (S.passed.settled i e l h k);
              spent = S.passed.spent;
            };
        leads = join_leads t;
        components = S.components;
      }

  pub search_pass : {arcs : ℕ → ℕ} {v e : ℕ} → ToPass first to σ depth groups v e → Put σ.next_arc arcs v e → Search first to (with_arcs σ arcs) n root height depth groups finished
  search_pass {arcs} {v} {e} t a =
      let i₀ = σ.path (depth - 1) in
      let l₀ = end_low t.some in
      let is = t.vertex in
      let low₀ : get_or first v 0 ≤ σ.next_arc v = rw is (S.passed.low i₀ l₀) in
      -- a place with this vertex is the end of the path
      let same : (i : ℕ) → i < height → σ.stack i ≡ v → i ≡ i₀ = λ i l q. sym (S.opened.back i l) ∙ ap (λ (k : ℕ). σ.place k) (q ∙ is) ∙ S.opened.back i₀ l₀ in
      record {
        graph = S.graph;
        count = S.count;
        counted = S.counted;
        root_low = S.root_low;
        roots = S.roots;
        opened = opened_arcs arcs S.opened;
        line = line_keep {σ = σ} (with_arcs σ arcs) refl refl S.line;
        passed =
            record {
              low =
                  λ i l.
                  by_cases (ℕ_discrete (σ.stack i) v) (λ q. rw (q, a.at) (omega (arith, t.next)))
                  (λ q. rw (a.off (σ.stack i) q) (S.passed.low i l));
              high =
                  λ i l.
                  by_cases (ℕ_discrete (σ.stack i) v) (λ q. rw (q, a.at) (omega (arith, t.next, t.more)))
                  (λ q. rw (a.off (σ.stack i) q) (S.passed.high i l));
              settled =
                  λ i f l h k.
                  by_cases (ℕ_discrete (σ.stack i) v)
                  (λ q.
                  by_cases (ℕ_discrete f (σ.next_arc v))
                  (λ z. rw z (⊎_elim (λ c. inl c) (λ c. inr (c.0, λ g j y. omega (arith, start_last S.line g j, c.1))) t.there))
                  (λ z.
                  let k' : f < e = rw (q, a.at) at k in
                  let r : σ.next_arc (σ.stack i) ≡ σ.next_arc v = ap (λ (x : ℕ). σ.next_arc x) q in
                  S.passed.settled i f l h (omega (arith, z, r, k', t.next))))
                  (λ q. S.passed.settled i f l h (rw (a.off (σ.stack i) q) at k));
              spent =
                  λ i l.
                  by_cases (ℕ_discrete (σ.stack i) v) (λ q. inr (depth - 1, omega (arith, t.some), sym (same i l q)))
                  (λ q. let z = a.off (σ.stack i) q in ⊎_elim (λ h. inl (rw z h)) (λ h. inr h) (S.passed.spent i l));
            };
        leads = S.leads;
        components = components_keep S.components (λ u h. h) (λ u h. (refl, refl));
      }

  pub search_leave : ToLeave first σ depth groups → Search first to σ n root height (depth - 1) groups finished
  search_leave t =
      record {
        graph = S.graph;
        count = S.count;
        counted = S.counted;
        root_low = S.root_low;
        roots = S.roots;
        opened = S.opened;
        line = path_leave S.line t.some t.inside;
        passed =
            record {
              low = S.passed.low;
              high = S.passed.high;
              settled = S.passed.settled;
              spent =
                  λ i l.
                  ⊎_elim (λ h. inl h)
                  (λ h.
                  by_cases (ℕ_discrete h.0 (depth - 1))
                  (λ q. let z : i ≡ σ.path (depth - 1) = sym h.2 ∙ ap (λ (x : ℕ). σ.path x) q in inl (rw z t.spent))
                  (λ q. inr (h.0, omega (arith, q, h.1), h.2)))
                  (S.passed.spent i l);
            };
        leads = S.leads;
        components = S.components;
      }

-- Entering a new vertex.
use mathlib.Core.Path.{◌≡◌, sym, ap, ◌∙◌}
use mathlib.Core.List.{List}
use mathlib.Core.Logic.{inl, inr, ⊎_elim, by_cases}
use Prim.Native.Nat.{ℕ, ◌+◌, ◌-◌, ◌<◌}
use native.Mathlib.Omega.{arith}
use native.Mathlib.Decide.{ℕ_discrete, dec_lt}
use lib.ListN.{get_or}
use Rattle.graph.specs.Graph.{Arc}
use Rattle.graph.proofs.Nonzero.{nonzero_more, nonzero_fewer}
use Rattle.cycles.specs.State.{State}
use Rattle.cycles.specs.Component.{Leads, stays, goes}
use Rattle.cycles.specs.Search.{Within, Opened, Settled, Passed, Search}
use Rattle.cycles.specs.Step.{top, ToEnter}
use Rattle.cycles.proofs.Cell.{Put}
use Rattle.cycles.proofs.Keep.{leads_arc, components_keep}
use Rattle.cycles.proofs.Line.{within_top, start_new, within_old, within_new, path_enter}

module _ {first to : List ℕ} {σ σ' : State} {n root height depth groups finished w : ℕ}
    (S : Search first to σ n root height depth groups finished) (t : ToEnter first to σ depth w)
    (g : Put σ.group σ'.group w 1) (p : Put σ.place σ'.place w height) (a : Put σ.next_arc σ'.next_arc w (get_or first w 0))
    (o : Put σ.stack σ'.stack height w) (x : Put σ.path σ'.path depth height) (y : Put σ.bound σ'.bound groups depth) where
  low : w < n
  low = omega (arith, S.count, t.low)

  -- w is neither open nor closed
  not_w : (v : ℕ) → 0 < σ.group v → v ≡ w → ⊥
  not_w v h e = omega (arith, ap (λ (k : ℕ). σ.group k) e, t.new)

  open_not : (i : ℕ) → i < height → σ.stack i ≡ w → ⊥
  open_not i l = not_w (σ.stack i) (omega (arith, S.opened.mark i l))

  kept : (i : ℕ) → i < height → σ'.stack i ≡ σ.stack i
  kept i l = o.off i (λ e. omega arith)

  opened : Opened σ' n (height + 1)
  opened =
      let was : (v : ℕ) → (v ≡ w → ⊥) → σ'.group v ≡ 1 → σ.group v ≡ 1 = λ v e h. sym (g.off v e) ∙ h in
      record {
        low = λ i l. by_cases (ℕ_discrete i height) (λ e. rw (e, o.at) low) (λ e. let k : i < height = omega (arith, e) in rw (kept i k) (S.opened.low i k));
        mark =
            λ i l.
            by_cases (ℕ_discrete i height) (λ e. rw (e, o.at) g.at)
            (λ e. let k : i < height = omega (arith, e) in rw (kept i k) (g.off (σ.stack i) (open_not i k) ∙ S.opened.mark i k));
        back =
            λ i l.
            by_cases (ℕ_discrete i height) (λ e. rw (e, o.at) p.at)
            (λ e. let k : i < height = omega (arith, e) in rw (kept i k) (p.off (σ.stack i) (open_not i k) ∙ S.opened.back i k));
        found =
            λ v l h.
            by_cases (ℕ_discrete v w) (λ e. rw (e, p.at) (omega arith))
            (λ e. rw (p.off v e) (omega (arith, S.opened.found v l (was v e h))));
        is =
            λ v l h.
            by_cases (ℕ_discrete v w) (λ e. rw (e, p.at) o.at)
            (λ e. rw (p.off v e) (kept (σ.place v) (S.opened.found v l (was v e h)) ∙ S.opened.is v l (was v e h)));
      }

  settled_keep : (i v : ℕ) → i < height → Settled σ groups i v → Settled σ' (groups + 1) i v
  settled_keep i v l (inl h) = inl (omega (arith, g.off v (not_w v (omega arith))))
  settled_keep i v l (inr h) =
      let ne = not_w v (omega (arith, h.0)) in
      let q = p.off v ne in
      inr (g.off v ne ∙ h.0, rw q (within_new σ' S.line x y l h.1))

  passed : Passed first to σ' (height + 1) (depth + 1) (groups + 1)
  passed =
      let at_kept : (i : ℕ) → i < height → σ'.next_arc (σ.stack i) ≡ σ.next_arc (σ.stack i) = λ i l. a.off (σ.stack i) (open_not i l) in
      record {
        low =
            λ i l.
            by_cases (ℕ_discrete i height) (λ e. rw (e, o.at, a.at) (omega arith))
            (λ e. let k : i < height = omega (arith, e) in rw (kept i k, at_kept i k) (S.passed.low i k));
        high =
            λ i l.
            by_cases (ℕ_discrete i height) (λ e. rw (e, o.at, a.at) (S.graph.rise w t.low))
            (λ e. let k : i < height = omega (arith, e) in rw (kept i k, at_kept i k) (S.passed.high i k));
        settled =
            λ i e l h j.
            by_cases (ℕ_discrete i height)
            (λ q.
            let h' = rw (q, o.at) at h in
            let j' = rw (q, o.at, a.at) at j in
            absurd (omega arith))
            (λ q.
            let k : i < height = omega (arith, q) in
            settled_keep i (get_or to e 0) k (S.passed.settled i e k (rw (kept i k) at h) (rw (kept i k, at_kept i k) at j)));
        spent =
            λ i l.
            by_cases (ℕ_discrete i height) (λ e. inr (depth, omega arith, x.at ∙ sym e))
            (λ e.
            let k : i < height = omega (arith, e) in
            ⊎_elim (λ h. inl (rw (kept i k, at_kept i k) h))
            (λ h. inr (h.0, omega (arith, h.1), x.off h.0 (λ q. omega (arith, h.1)) ∙ h.2))
            (S.passed.spent i k));
      }

  -- every open vertex leads to the end of the path, and so to w
  leads : (i j : ℕ) → i < height + 1 → j < height + 1 → Within σ' (groups + 1) i j → Leads (Arc first to) (σ'.stack i) (σ'.stack j)
  leads i j li lj h =
      by_cases (ℕ_discrete i height)
      (λ e.
      let q : j ≡ height = omega (arith, start_new σ' S.line x y, h groups (omega arith) (omega (arith, start_new σ' S.line x y))) in
      stays (ap (λ (k : ℕ). σ'.stack k) (e ∙ sym q)))
      (λ e.
      let ki : i < height = omega (arith, e) in
      by_cases (ℕ_discrete j height)
      (λ q.
      let some : 0 < depth = by_cases (dec_lt 0 depth) (λ l. l) (λ l. absurd (omega (arith, S.line.none (omega (arith, l))))) in
      let up : Leads (Arc first to) (σ.stack i) (top σ depth) = S.leads i (σ.path (depth - 1)) ki (S.line.low (depth - 1) (omega arith)) (within_top S.line i) in
      rw (kept i ki, q, o.at) (goes (leads_arc up (t.arc some))))
      (λ q.
      let kj : j < height = omega (arith, q) in
      rw (kept i ki, kept j kj) (S.leads i j ki kj (within_old σ' S.line x y h))))

  pub search_enter : Search first to σ' n root (height + 1) (depth + 1) (groups + 1) finished
  search_enter =
      record {
        graph = S.graph;
        count = S.count;
        counted = omega (arith, nonzero_more σ.group σ'.group n w low t.new (omega (arith, g.at)) g.off, S.counted);
        root_low = S.root_low;
        roots = λ v l. omega (arith, g.off v (not_w v (S.roots v l)), S.roots v l);
        opened = opened;
        line = path_enter σ' S.line x y;
        passed = passed;
        leads = leads;
        components =
            components_keep S.components
            (λ v h. by_cases (ℕ_discrete v w) (λ e. absurd (omega (arith, ap (λ (k : ℕ). σ'.group k) e, g.at))) (λ e. omega (arith, g.off v e)))
            (λ v h. let ne = not_w v (omega arith) in (g.off v ne, p.off v ne));
      }

-- there is room where a vertex is new
pub enter_room : {first to : List ℕ} {σ : State} {n root height depth groups finished w : ℕ} → Search first to σ n root height depth groups finished
    → ToEnter first to σ depth w → height + finished < n
enter_room {σ = σ} {n = n} {w = w} S t = omega (arith, S.counted, nonzero_fewer σ.group n w (omega (arith, S.count, t.low)) t.new)

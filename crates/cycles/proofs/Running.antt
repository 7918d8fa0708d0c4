-- The search as the code runs it: by the step that was chosen.
use mathlib.Core.Path.{◌≡◌, refl, sym, ap, subst, ◌∙◌}
use mathlib.Core.List.{List}
use Prim.Native.Nat.{ℕ, ◌+◌, ◌*◌, ◌-◌, ◌≤◌, ◌<◌}
use native.Mathlib.Omega.{arith}
use lib.ListN.{length, get_or, length-set}
use Rattle.columns.specs.Column.{cleared}
use Rattle.graph.specs.Graph.{vertices}
use Rattle.graph.proofs.Store.{zeros}
use Rattle.cycles.specs.State.{State, cell, store, state}
use Rattle.cycles.specs.Component.{Finished}
use Rattle.cycles.specs.Search.{Search, Going, Ready}
use Rattle.cycles.specs.Step.{top, ToEnter, ToPass, ToClose, Chosen, Enterable, Closable, Closed, Countable, moved, after, entered, Storable, Stored}
use Rattle.cycles.specs.declared.Step.{Step}
use Rattle.cycles.specs.declared.Step.TheVariants.{Done, Skip, Enter, Join, Pass, Leave, Close}
use Rattle.cycles.specs.declared.Counts.{Counts}
use Rattle.std.specs.Prelude.{Some, None}
use Rattle.cycles.proofs.Cell.{Put, cell_put, state_arcs, state_closing, closed_by, entered_long, entered_puts}
use Rattle.cycles.proofs.Entering.{search_enter, enter_room}
use Rattle.cycles.proofs.Turn.{search_skip, search_join, search_pass, search_leave}
use Rattle.cycles.proofs.Closing.{search_close}
use Rattle.cycles.proofs.End.{search_start, search_end}
use Rattle.cycles.proofs.Following.{open_count, path_count, bound_count, top_low}

pub record Running (first to s₀ s : List ℕ) (c : Counts) : Type 0 where
  pub going : Going first to s c
  pub long : length s ≡ length s₀

-- what is left to do: it falls with each step
abbrev pub left : List ℕ → State → Counts → ℕ
left first σ c =
    (3 * (vertices first - (c.height + c.finished)) + c.depth + c.groups + (vertices first - c.root)) * 8589934592
    + (4294967296 - σ.next_arc (top σ c.depth))

-- the first part counts for more
fall : (a b x y : ℕ) → a < b → a * 8589934592 + (4294967296 - y) < b * 8589934592 + (4294967296 - x)
fall a b x y h = omega arith

close_fewer :
    (n s m d b root from : ℕ) → from < s → 0 < d → 0 < b
    → 3 * (n - (from + (m + (s - from)))) + (d - 1) + (b - 1) + (n - root) < 3 * (n - (s + m)) + d + b + (n - root)
close_fewer n s m d b root from l h k = let e : from + (m + (s - from)) ≡ s + m = omega arith in rw e (omega arith)

pub running_start : {first to s s₁ : List ℕ} → Ready first to s → s₁ ≡ cleared 0 0 s → length s₁ ≡ length s → Running first to s₁ s₁ (record {
  root = 0;
  height = 0;
  depth = 0;
  groups = 0;
  finished = 0;
})
running_start {first} {to} {s} {s₁} r q e =
    record {
      going = record { search = search_start {σ = state s₁} r.graph refl (λ v. zeros s s₁ q (6 * v + 0)); room = e ∙ r.room };
      long = refl;
    }

on_over : {t : Counts} → Some t ≡ None → ⊥
on_over q = let z : ◌≡◌ {A = ℕ} 0 1 = cc in omega arith

on_moved : (r : Step) (c t : Counts) → after r c ≡ Some t → t ≡ moved r c
on_moved Done c t q = absurd (on_over (sym q))
on_moved Skip c t q = cc
on_moved (Enter w) c t q = cc
on_moved Join c t q = cc
on_moved (Pass v e) c t q = cc
on_moved Leave c t q = cc
on_moved (Close from) c t q = cc

module _ {first to s : List ℕ} {c : Counts} (G : Going first to s c) where
  S : Search first to (state s) (vertices first) c.root c.height c.depth c.groups c.finished
  S = G.search

  -- the counts and the root are small
  few : c.height + c.finished ≤ vertices first
  few = open_count S

  end_small : vertices first ≤ 65536
  end_small = S.graph.small

  d_low : c.depth ≤ c.height
  d_low = path_count S

  b_low : c.groups ≤ c.depth
  b_low = bound_count S

  enterable : {w : ℕ} → ToEnter first to (state s) c.depth w → Enterable first s w c
  enterable t =
      let more = enter_room S t in
      record {
        low = omega (arith, t.low);
        room = omega (arith, t.low, G.room);
        stack_room = omega (arith, more, G.room);
        path_room = omega (arith, more, d_low, G.room);
        bound_room = omega (arith, more, d_low, b_low, G.room);
        small = omega (arith, G.room, end_small);
      }

  going_enter : {w : ℕ} → ToEnter first to (state s) c.depth w → Going first to (entered first s w c) (moved (Enter w) c)
  going_enter {w} t =
      let P = entered_puts first s w c (enterable t) in
      record {
        search = search_enter S t P.in_group P.in_place P.in_arcs P.in_stack P.in_path P.in_bound;
        room = entered_long first s w c ∙ G.room;
      }

  module _ {v e : ℕ} (t : ToPass first to (state s) c.depth c.groups v e) where
    pass_vertex : v < vertices first
    pass_vertex = omega (arith, t.vertex, top_low S t.some)

    pass_put : Put (cell s 2) (cell (store s 2 v e) 2) v e
    pass_put = cell_put s 2 v e (omega (arith, pass_vertex, G.room))

    going_pass : Going first to (store s 2 v e) c
    going_pass =
        record {
          search =
              subst (λ (σ : State). Search first to σ (vertices first) c.root c.height c.depth c.groups c.finished) (sym (state_arcs s v e))
              (search_pass S t pass_put);
          room = length-set s (6 * v + 2) e ∙ G.room;
        }

    -- the next arc of the end of the path is one further on
    pass_next : (state (store s 2 v e)).next_arc (top (state (store s 2 v e)) c.depth) ≡ (state s).next_arc (top (state s) c.depth) + 1
    pass_next =
        let stays : top (state (store s 2 v e)) c.depth ≡ top (state s) c.depth = ap (λ (σ : State). top σ c.depth) (state_arcs s v e) in
        ap (cell (store s 2 v e) 2) (stays ∙ sym t.vertex) ∙ pass_put.at ∙ t.next ∙ ap (λ (x : ℕ). cell s 2 x + 1) t.vertex

    pass_upto : (state s).next_arc (top (state s) c.depth) < get_or first (top (state s) c.depth + 1) 0
    pass_upto = subst (λ (x : ℕ). cell s 2 x < get_or first (x + 1) 0) t.vertex t.more

  module _ {from : ℕ} (t : ToClose first (state s) c.depth c.groups from) where
    close_upto : from < c.height
    close_upto = omega (arith, t.place, S.line.low (c.depth - 1) (omega (arith, t.some)))

    close_some : 0 < c.groups
    close_some = S.line.bound_some t.some

    closable : Closable s from c.height c.finished
    closable =
        let up = close_upto in
        record {
          stack_room = omega (arith, few, G.room);
          small = omega (arith, few, end_small);
          upto = omega arith;
          room = λ i f l. omega (arith, S.opened.low i l, G.room);
          once = λ i j f l g k e. sym (S.opened.back i l) ∙ ap (cell s 1) e ∙ S.opened.back j k;
        }

    going_close : {s' : List ℕ} → Closed s s' from c.height c.finished → Going first to s' (moved (Close from) c)
    going_close z =
        record {
          search =
              subst (λ (σ : State). Search first to σ (vertices first) c.root from (c.depth - 1) (c.groups - 1) (c.finished + (c.height - from))) (sym (state_closing z))
              (search_close S t (closed_by z));
          room = z.long ∙ G.room;
        }

  -- ---- by the step that was chosen

  pub countable : (r : Step) → Chosen first to (state s) c.root c.depth c.groups r → Countable r c
  countable Done h = tt
  countable Skip h = omega (arith, h.low, end_small)
  countable (Enter w) h = (omega (arith, few, end_small), omega (arith, d_low, few, end_small), omega (arith, b_low, d_low, few, end_small))
  countable Join h = S.line.bound_some h.some
  countable (Pass v e) h = tt
  countable Leave h = h.some
  countable (Close from) h = (omega (arith, close_upto h), omega (arith, few, end_small), h.some, close_some h)

  module _ (small_arcs : (i : ℕ) → get_or first i 0 < 4294967296) where
    pub storable : (r : Step) → Chosen first to (state s) c.root c.depth c.groups r → Storable first s r c
    storable Done h = tt
    storable Skip h = tt
    storable (Enter w) h = enterable h
    storable Join h = tt
    storable (Pass v e) h = (omega (arith, pass_vertex h, G.room), omega (arith, h.next, h.more, small_arcs (v + 1)))
    storable Leave h = tt
    storable (Close from) h = closable h

  module _ (s' : List ℕ) where
    turned :
        (r : Step) → Chosen first to (state s) c.root c.depth c.groups r → Stored first s s' r c → Going first to s' (moved r c)
    turned Done h w = rw w G
    turned Skip h w = rw w (record { search = search_skip S h; room = G.room })
    turned (Enter v) h w = rw w (going_enter h)
    turned Join h w = rw w (record { search = search_join S h; room = G.room })
    turned (Pass v e) h w = rw w (going_pass h)
    turned Leave h w = rw w (record { search = search_leave S h; room = G.room })
    turned (Close from) h w = going_close h w

    pub running_end :
        (r : Step) → Chosen first to (state s) c.root c.depth c.groups r → after r c ≡ None → Stored first s s' r c → Finished first to (state s')
    running_end Done h q w = rw w (search_end S h)
    running_end Skip h q w = absurd (on_over q)
    running_end (Enter x) h q w = absurd (on_over q)
    running_end Join h q w = absurd (on_over q)
    running_end (Pass v e) h q w = absurd (on_over q)
    running_end Leave h q w = absurd (on_over q)
    running_end (Close from) h q w = absurd (on_over q)

    fewer :
        (r : Step) (t : Counts) → ((i : ℕ) → get_or first i 0 < 4294967296)
        → Chosen first to (state s) c.root c.depth c.groups r
        → after r c ≡ Some t
        → Stored first s s' r c
        → left first (state s') (moved r c) < left first (state s) c
    fewer Done t k h q w = absurd (on_over (sym q))
    fewer Skip t k h q w = fall _ _ _ _ (omega (arith, h.low))
    fewer (Enter x) t k h q w = fall _ _ _ _ (omega (arith, enter_room S h))
    fewer Join t k h q w = fall _ _ _ _ (omega (arith, S.line.bound_some h.some))
    fewer (Pass v e) t k h q w = rw w (omega (arith, pass_next h, pass_upto h, k (top (state s) c.depth + 1)))
    fewer Leave t k h q w = fall _ _ _ _ (omega (arith, h.some))
    fewer (Close from) t k h q w =
        fall _ _ _ _ (close_fewer (vertices first) c.height c.finished c.depth c.groups c.root from (close_upto h) h.some (close_some h))

module _ {first to s₀ s : List ℕ} {c : Counts} (R : Running first to s₀ s c) (s' : List ℕ) (r : Step) {t : Counts}
    (h : Chosen first to (state s) c.root c.depth c.groups r) (q : after r c ≡ Some t) (w : Stored first s s' r c) where
  pub running_on : length s' ≡ length s → Running first to s₀ s' t
  running_on e = record { going = rw (on_moved r c t q) (turned R.going s' r h w); long = e ∙ R.long }

  pub less : ((i : ℕ) → get_or first i 0 < 4294967296) → left first (state s') t < left first (state s) c
  less k = rw (on_moved r c t q) (fewer R.going s' r t k h q w)

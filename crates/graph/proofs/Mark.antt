-- The search from one vertex: a law for each step.
use mathlib.Core.Path.{◌≡◌, refl, sym, ap, ◌∙◌}
use mathlib.Core.Bool.{Bool, true, false, cond, not}
use mathlib.Core.List.{List, ◌++◌}
use mathlib.Core.Logic.{◌⊎◌, inl, inr, by_cases}
use Prim.Native.Nat.{ℕ, ◌+◌, ◌≤◌, ◌<◌}
use native.Mathlib.Omega.{arith}
use native.Mathlib.Decide.{ℕ_discrete, dec_lt}
use borrow.Author.Tests.{ltb-true, eqb-false, not-true, lt-ltb, eq-eqb, ne_eqb}
use lib.Dec.{eqb, ltb}
use lib.ListN.{length, get_or, set, take, drop, replicate, length-set}
use lib.Seq.{length-take-le, take_at, drop_at}
use Rattle.columns.proofs.Laws.{clear_before}
use Rattle.relations.specs.Reach.{Reaches, direct, onward}
use Rattle.relations.proofs.Reach.{reaches_trans}
use Rattle.relations.proofs.Select.{and_fst, and_snd}
use Rattle.graph.specs.Graph.{vertices, Arc}
use Rattle.graph.specs.Mark.{flag, Markable, Marks, lent, MarkedAll, stamped_at, stamped, unstamped, Searchable, Stamps, Lists, Searches, Spread, Source, Expands}
use Rattle.graph.proofs.Store.{Put, put}
use Rattle.graph.proofs.Nonzero.{nonzero_none, nonzero_le, nonzero_fewer, nonzero_more, nonzero_agree}
use Rattle.graph.proofs.Arcs.{arc_target, reaches_target}

pub markable_set : {first to mark queue : List ℕ} {from : ℕ} → Markable first to from mark queue → (mark' queue' : List ℕ) → length mark' ≡ length mark
    → length queue' ≡ length queue → Markable first to from mark' queue'
markable_set r mark' queue' p q =
    record { graph = r.graph; source = r.source; mark_room = omega (arith, r.mark_room); queue_room = omega (arith, r.queue_room) }

-- ---- stamps

module _ (stamp : ℕ) (mark : List ℕ) where
  stamp_none : (v : ℕ) → (get_or mark v 0 ≡ stamp → ⊥) → stamped_at stamp mark v ≡ 0
  stamp_none v h = rw (ne_eqb (get_or mark v 0) stamp h)

  -- none of the first n
  none_stamped : (n : ℕ) → ((v : ℕ) → v < n → get_or mark v 0 ≡ stamp → ⊥) → stamped stamp mark n ≡ 0
  none_stamped n h =
      nonzero_agree (λ _. 0) (stamped_at stamp mark) n (λ v l. ap flag (stamp_none v (h v l)))
      ∙ nonzero_none (λ _. 0) n (λ _. refl)

  pub unstamped_low : (v : ℕ) → unstamped stamp mark v ≡ true → v < length mark
  unstamped_low v h = ltb-true v (length mark) (and_fst (ltb v (length mark)) (not (eqb (get_or mark v 0) stamp)) h)

  pub unstamped_differs : (v : ℕ) → unstamped stamp mark v ≡ true → get_or mark v 0 ≡ stamp → ⊥
  unstamped_differs v h = eqb-false (get_or mark v 0) stamp (not-true _ (and_snd (ltb v (length mark)) (not (eqb (get_or mark v 0) stamp)) h))

  stamped_already : (v : ℕ) → v < length mark → unstamped stamp mark v ≡ false → get_or mark v 0 ≡ stamp
  stamped_already v l h =
      by_cases (ℕ_discrete (get_or mark v 0) stamp) (λ e. e)
      (λ n. absurd
      (let y : unstamped stamp mark v ≡ true = rw (lt-ltb v (length mark) l, ne_eqb (get_or mark v 0) stamp n) in
      let z : ◌≡◌ {A = Bool} true false = cc in let o : ◌≡◌ {A = ℕ} 0 1 = cc in omega arith))

  -- one more
  stamped_more : (n w : ℕ) → w < n → w < length mark → (get_or mark w 0 ≡ stamp → ⊥) → stamped stamp (set mark w stamp) n ≡ stamped stamp mark n + 1
  stamped_more n w l r h =
      let m = put mark w stamp r in
      let p : stamped_at stamp (set mark w stamp) w ≡ 1 = rw (eq-eqb (get_or (set mark w stamp) w 0) stamp m.at) in
      nonzero_more (stamped_at stamp mark) (stamped_at stamp (set mark w stamp)) n w l (stamp_none w h) (omega arith)
      (λ v e. ap (λ (x : ℕ). cond (eqb x stamp) 1 0) (m.off v e))

  pub stamps_more : {t : ℕ} (w : ℕ) → t ≤ stamped stamp mark (length mark) → unstamped stamp mark w ≡ true
      → t + 1 ≤ stamped stamp (set mark w stamp) (length (set mark w stamp))
  stamps_more w l h =
      let r = unstamped_low w h in
      let q = length-set mark w stamp in
      rw q (omega (arith, stamped_more (length mark) w r r (unstamped_differs w h)))

  pub stamps_few : {t : ℕ} → t ≤ stamped stamp mark (length mark) → t ≤ length mark
  stamps_few l = omega (arith, nonzero_le (stamped_at stamp mark) (length mark))

  pub stamps_room : {t : ℕ} (w : ℕ) → t ≤ stamped stamp mark (length mark) → unstamped stamp mark w ≡ true → t + 1 ≤ length mark
  stamps_room w l h =
      let r = unstamped_low w h in
      omega (arith, nonzero_fewer (stamped_at stamp mark) (length mark) w r (stamp_none w (unstamped_differs w h)))

-- a store of the stamp keeps the stamps
still : {l l' : List ℕ} {i x : ℕ} → Put l l' i x → (j : ℕ) → get_or l j 0 ≡ x → get_or l' j 0 ≡ x
still {i = i} p j h = by_cases (ℕ_discrete j i) (λ q. rw q p.at) (λ q. p.off j q ∙ h)

-- ---- the marks and the queue

pub spread_start : {first to mark queue : List ℕ} {from stamp : ℕ} → Searchable first to from stamp mark queue → Spread first to from stamp mark mark queue 0
spread_start {first} {to} {mark} {queue} {from} {stamp} r =
    record {
      markable = r.markable;
      counted = none_stamped stamp mark (vertices first) r.fresh;
      others = λ v h. refl;
      behind = λ v l. refl;
      low = λ k l. absurd (omega arith);
      reached = λ k l. absurd (omega arith);
      marked = λ k l. absurd (omega arith);
      queued = λ w l h. absurd (r.fresh w l h);
      once = λ j k l h. absurd (omega arith);
    }

module _ {first to mark₀ mark queue : List ℕ} {from stamp t : ℕ} (s : Spread first to from stamp mark₀ mark queue t) where
  pub tail_low : t ≤ vertices first
  tail_low = omega (arith, s.counted, nonzero_le (stamped_at stamp mark) (vertices first))

  tail_room : (w : ℕ) → w < vertices first → (get_or mark w 0 ≡ stamp → ⊥) → t < vertices first
  tail_room w l h = omega (arith, s.counted, nonzero_fewer (stamped_at stamp mark) (vertices first) w l (stamp_none stamp mark w h))

  module _ (w : ℕ) (l : w < vertices first) (h : get_or mark w 0 ≡ stamp → ⊥) (r : Reaches (Arc first to) from w) where
    marked_more : Put mark (set mark w stamp) w stamp
    marked_more = put mark w stamp (omega (arith, s.markable.mark_room))

    queued_more : Put queue (set queue t w) t w
    queued_more = put queue t w (omega (arith, tail_room w l h, s.markable.queue_room))

    before_tail : (k : ℕ) → k < t → get_or (set queue t w) k 0 ≡ get_or queue k 0
    before_tail k g = queued_more.off k (λ e. omega arith)

    once_more : (j k : ℕ) → j < k → k < t + 1 → get_or (set queue t w) j 0 ≡ get_or (set queue t w) k 0 → ⊥
    once_more j k g i e =
        by_cases (ℕ_discrete k t)
        (λ q. let at : get_or queue j 0 ≡ w = sym (before_tail j (omega arith)) ∙ e ∙ ap (λ (x : ℕ). get_or (set queue t w) x 0) q ∙ queued_more.at in
        h (ap (λ (x : ℕ). get_or mark x 0) (sym at) ∙ s.marked j (omega arith)))
        (λ q. s.once j k g (omega (arith, q)) (sym (before_tail j (omega (arith, q))) ∙ e ∙ before_tail k (omega (arith, q))))

    spread_add : Spread first to from stamp mark₀ (set mark w stamp) (set queue t w) (t + 1)
    spread_add =
        let m = marked_more in
        let q = queued_more in
        record {
          markable = markable_set s.markable (set mark w stamp) (set queue t w) m.long q.long;
          counted = omega (arith, stamped_more stamp mark (vertices first) w l (omega (arith, s.markable.mark_room)) h, s.counted);
          others = λ v n. by_cases (ℕ_discrete v w) (λ e. absurd (n (rw e m.at))) (λ e. m.off v e ∙ s.others v (λ z. n (m.off v e ∙ z)));
          behind = λ v g. m.off v (λ e. omega arith) ∙ s.behind v g;
          low = λ k g. by_cases (ℕ_discrete k t) (λ e. rw (e, q.at) l) (λ e. rw (before_tail k (omega (arith, e))) (s.low k (omega (arith, e))));
          reached = λ k g. by_cases (ℕ_discrete k t) (λ e. rw (e, q.at) r) (λ e. rw (before_tail k (omega (arith, e))) (s.reached k (omega (arith, e))));
          marked = λ k g. by_cases (ℕ_discrete k t) (λ e. rw (e, q.at) m.at)
              (λ e. rw (before_tail k (omega (arith, e))) (still m (get_or queue k 0) (s.marked k (omega (arith, e)))));
          queued =
              λ x p y.
              by_cases (ℕ_discrete x w) (λ e. (t, omega arith, q.at ∙ sym e))
              (λ e.
              let b = s.queued x p (sym (m.off x e) ∙ y) in
              (b.0, omega (arith, b.1), before_tail b.0 b.1 ∙ b.2));
          once = once_more;
        }

-- ---- the loop of `expand`

-- the targets before a place have the stamp
pub record Passed (first to : List ℕ) (from stamp u : ℕ) (mark₀ mark₁ queue₁ : List ℕ) (tail : ℕ) (mark queue : List ℕ) (e t : ℕ) : Type 0 where
  pub spread : Spread first to from stamp mark₀ mark queue t
  pub grown : tail ≤ t
  pub kept : (k : ℕ) → k < tail → get_or queue k 0 ≡ get_or queue₁ k 0
  pub marks : (w : ℕ) → get_or mark₁ w 0 ≡ stamp → get_or mark w 0 ≡ stamp
  pub passed : (f : ℕ) → get_or first u 0 ≤ f → f < e → get_or mark (get_or to f 0) 0 ≡ stamp

pub record Going (first to : List ℕ) (u stamp : ℕ) (mark₁ queue₁ : List ℕ) (tail end : ℕ) (mark queue : List ℕ) (e t : ℕ) : Type 0 where
  pub end_is : end ≡ get_or first (u + 1) 0
  pub low : get_or first u 0 ≤ e
  pub ends : t ≤ stamped stamp mark (length mark)
  pub mark_long : length mark ≡ length mark₁
  pub queue_long : length queue ≡ length queue₁
  pub is : (from : ℕ) (mark₀ : List ℕ) → Spread first to from stamp mark₀ mark₁ queue₁ tail → Source first to from u
      → Passed first to from stamp u mark₀ mark₁ queue₁ tail mark queue e t

pub going_start : {first to mark queue : List ℕ} {u stamp tail e end : ℕ} → tail ≤ stamped stamp mark (length mark) → e ≡ get_or first u 0 → end ≡ get_or first (u + 1) 0
    → Going first to u stamp mark queue tail end mark queue e tail
going_start l p q =
    record {
      end_is = q;
      low = omega arith;
      ends = l;
      mark_long = refl;
      queue_long = refl;
      is = λ from mark₀ s h. record { spread = s; grown = omega arith; kept = λ k l. refl; marks = λ w l. l; passed = λ f l g. absurd (omega arith) };
    }

module _ {first to mark₁ queue₁ mark queue : List ℕ} {u stamp tail end e t : ℕ} (s : Going first to u stamp mark₁ queue₁ tail end mark queue e t)
    (l : e < end) (w : ℕ) (q : w ≡ get_or to e 0) where
  here_arc : Arc first to u w
  here_arc = record { place = e; from = s.low; upto = omega (arith, s.end_is); target = sym q }

  going_old : unstamped stamp mark w ≡ false → Going first to u stamp mark₁ queue₁ tail end mark queue (e + 1) t
  going_old h =
      record {
        end_is = s.end_is;
        low = omega (arith, s.low);
        ends = s.ends;
        mark_long = s.mark_long;
        queue_long = s.queue_long;
        is =
            λ from mark₀ b k.
            let p = s.is from mark₀ b k in
            let lw = arc_target b.markable.graph here_arc in
            let at : get_or mark w 0 ≡ stamp = stamped_already stamp mark w (omega (arith, p.spread.markable.mark_room)) h in
            record {
              spread = p.spread;
              grown = p.grown;
              kept = p.kept;
              marks = p.marks;
              passed = λ f i j. by_cases (ℕ_discrete f e) (λ z. rw (z, ← q) at) (λ z. p.passed f i (omega (arith, z)));
            };
      }

  going_new : unstamped stamp mark w ≡ true → Going first to u stamp mark₁ queue₁ tail end (set mark w stamp) (set queue t w) (e + 1) (t + 1)
  going_new h =
      record {
        end_is = s.end_is;
        low = omega (arith, s.low);
        ends = stamps_more stamp mark w s.ends h;
        mark_long = length-set mark w stamp ∙ s.mark_long;
        queue_long = length-set queue t w ∙ s.queue_long;
        is =
            λ from mark₀ b k.
            let p = s.is from mark₀ b k in
            let lw = arc_target b.markable.graph here_arc in
            let n = unstamped_differs stamp mark w h in
            let r = k.leads w here_arc in
            let m = marked_more p.spread w lw n r in
            let g = p.grown in
            record {
              spread = spread_add p.spread w lw n r;
              grown = omega arith;
              kept = λ k i. before_tail p.spread w lw n r k (omega arith) ∙ p.kept k i;
              marks = λ x i. still m x (p.marks x i);
              passed =
                  λ f i j.
                  by_cases (ℕ_discrete f e) (λ z. rw (z, ← q) m.at)
                  (λ z. still m (get_or to f 0) (p.passed f i (omega (arith, z))));
            };
      }

  pub going_step : (mark' queue' : List ℕ) (t' : ℕ) → ((unstamped stamp mark w ≡ true) × (mark' ≡ set mark w stamp) × (queue' ≡ set queue t w) ×
      (t' ≡ t + 1)) ⊎ ((unstamped stamp mark w ≡ false) × (mark' ≡ mark) × (queue' ≡ queue) × (t' ≡ t))
      → Going first to u stamp mark₁ queue₁ tail end mark' queue' (e + 1) t'
  going_step mark' queue' t' (inl c) = rw (c.1, c.2, c.3) (going_new c.0)
  going_step mark' queue' t' (inr c) = rw (c.1, c.2, c.3) (going_old c.0)

pub going_end : {first to mark₁ queue₁ mark queue : List ℕ} {u stamp tail end e t : ℕ} → Going first to u stamp mark₁ queue₁ tail end mark queue e t → end ≤ e
    → Expands first to u stamp mark₁ queue₁ tail mark queue t
going_end {mark = mark} s l =
    record {
      ends = s.ends;
      is =
          λ from mark₀ b k.
          let p = s.is from mark₀ b k in
          record {
            spread = p.spread;
            grown = p.grown;
            kept = p.kept;
            marks = p.marks;
            all = λ w f. let h = p.passed f.place f.from (omega (arith, f.upto, s.end_is)) in let z = f.target in rw z at h;
          };
    }

-- what is no vertex is left at once
pub expands_none : {first to mark queue : List ℕ} {u stamp tail : ℕ} → tail ≤ stamped stamp mark (length mark) → length first ≤ u
    → Expands first to u stamp mark queue tail mark queue tail
expands_none l h = record { ends = l; is = λ from mark₀ b k. absurd (omega (arith, k.vertex)) }

-- ---- the loop of `search`

-- what follows the vertices before `head` has the stamp
pub record Closed (first to : List ℕ) (from stamp : ℕ) (mark₀ mark queue : List ℕ) (tail head : ℕ) : Type 0 where
  pub spread : Spread first to from stamp mark₀ mark queue tail
  pub within : head ≤ tail
  pub first_all : (w : ℕ) → Arc first to from w → get_or mark w 0 ≡ stamp
  pub closed : (k w : ℕ) → k < head → Arc first to (get_or queue k 0) w → get_or mark w 0 ≡ stamp

-- whatever the marks and the queue were before the targets of the vertex itself were marked
pub record Front (first to : List ℕ) (from stamp : ℕ) (mark₁ queue₁ : List ℕ) (tail₁ : ℕ) (mark queue : List ℕ) (tail head : ℕ) : Type 0 where
  pub ends : tail ≤ stamped stamp mark (length mark)
  pub mark_long : length mark ≡ length mark₁
  pub queue_long : length queue ≡ length queue₁
  pub is : (mark₀ queue₀ : List ℕ) → Expands first to from stamp mark₀ queue₀ 0 mark₁ queue₁ tail₁ → Searchable first to from stamp mark₀ queue₀
      → Closed first to from stamp mark₀ mark queue tail head

pub front_start : {first to mark₀ queue₀ mark queue : List ℕ} {from stamp tail : ℕ} → Expands first to from stamp mark₀ queue₀ 0 mark queue tail
    → Front first to from stamp mark queue tail mark queue tail 0
front_start {first} {to} {from = from} x =
    record {
      ends = x.ends;
      mark_long = refl;
      queue_long = refl;
      is =
          λ mark₀ queue₀ y s.
          let p = y.is from mark₀ (spread_start s) (record { vertex = s.markable.source; leads = λ w e. direct e }) in
          record { spread = p.spread; within = omega arith; first_all = p.all; closed = λ k w l. absurd (omega arith) };
    }

front_source : {first to mark₀ mark queue : List ℕ} {from stamp tail head : ℕ} (u : ℕ) → head < tail → u ≡ get_or queue head 0
    → Closed first to from stamp mark₀ mark queue tail head → Source first to from u
front_source {first} {to} {from = from} {head = head} u l q p =
    let r = p.spread.reached head l in
    let r' : Reaches (Arc first to) from u = rw (← q) at r in
    record { vertex = rw q (p.spread.low head l); leads = λ w e. reaches_trans r' (direct e) }

module _ {first to mark₁ queue₁ mark queue : List ℕ} {from stamp tail₁ tail head : ℕ} (s : Front first to from stamp mark₁ queue₁ tail₁ mark queue tail head) where
  pub head_low : head < tail → head < length mark₁
  head_low l = omega (arith, stamps_few stamp mark s.ends, s.mark_long)

  pub front_step : {mark' queue' : List ℕ} {tail' : ℕ} (u : ℕ) → head < tail → u ≡ get_or queue head 0
      → Expands first to u stamp mark queue tail mark' queue' tail' → length mark' ≡ length mark → length queue' ≡ length queue
      → Front first to from stamp mark₁ queue₁ tail₁ mark' queue' tail' (head + 1)
  front_step u l q x a b =
      record {
        ends = x.ends;
        mark_long = a ∙ s.mark_long;
        queue_long = b ∙ s.queue_long;
        is =
            λ mark₀ queue₀ e g.
            let p = s.is mark₀ queue₀ e g in
            let y = x.is from mark₀ p.spread (front_source u l q p) in
            record {
              spread = y.spread;
              within = omega (arith, y.grown);
              first_all = λ w e. y.marks w (p.first_all w e);
              closed =
                  λ k w g e.
                  let z = y.kept k (omega arith) in
                  let e' = rw z at e in
                  by_cases (ℕ_discrete k head) (λ j. y.all w (rw (j, ← q) at e')) (λ j. y.marks w (p.closed k w (omega (arith, j)) e'));
            };
      }

-- at the end, all that is reached has the stamp
module _ {first to mark₀ mark queue : List ℕ} {from stamp tail head : ℕ} (p : Closed first to from stamp mark₀ mark queue tail head) (l : tail ≤ head) where
  from_marked : (x w : ℕ) → x < vertices first → get_or mark x 0 ≡ stamp → Arc first to x w → get_or mark w 0 ≡ stamp
  from_marked x w lx h e =
      let b = p.spread.queued x lx h in
      p.closed b.0 w (omega (arith, b.1)) (rw (← b.2) at e)

  all_marked : {x w : ℕ} → x < vertices first → get_or mark x 0 ≡ stamp → Reaches (Arc first to) x w → get_or mark w 0 ≡ stamp
  all_marked {x} {w} lx h (direct e) = from_marked x w lx h e
  all_marked {x} {w} lx h (onward {b = y} e r) = all_marked (arc_target p.spread.markable.graph e) (from_marked x y lx h e) r

  v_marked : {w : ℕ} → Reaches (Arc first to) from w → get_or mark w 0 ≡ stamp
  v_marked {w} (direct e) = p.first_all w e
  v_marked {w} (onward {b = y} e r) = all_marked (arc_target p.spread.markable.graph e) (p.first_all y e) r

  closed_stamps : Stamps first to from stamp mark₀ mark
  closed_stamps =
      record {
        sound = λ v lv h. let b = p.spread.queued v lv h in let r = p.spread.reached b.0 b.1 in let c = b.2 in rw c at r;
        complete = λ v r. v_marked r;
        others = p.spread.others;
        behind = p.spread.behind;
      }

  closed_lists : Lists first to from queue tail
  closed_lists =
      record {
        sound = p.spread.reached;
        complete = λ v r. p.spread.queued v (reaches_target p.spread.markable.graph r) (v_marked r);
        once = p.spread.once;
      }

pub front_end : {first to mark₀ queue₀ mark₁ queue₁ mark queue : List ℕ} {from stamp tail₁ tail head : ℕ}
    → Front first to from stamp mark₁ queue₁ tail₁ mark queue tail head → Expands first to from stamp mark₀ queue₀ 0 mark₁ queue₁ tail₁ → tail ≤ head
    → Searches first to from stamp mark₀ queue₀ mark queue tail
front_end {mark₀ = mark₀} {queue₀} s x l =
    record { stamps = λ g. closed_stamps (s.is mark₀ queue₀ x g) l; lists = λ g. closed_lists (s.is mark₀ queue₀ x g) l }

-- ---- the marks of `reachable`: the stamp 1 among zeros

pub ones : {first to mark₀ queue mark queue' : List ℕ} {from n : ℕ} → Markable first to from mark₀ queue → ((v : ℕ) → get_or mark₀ v 0 ≡ 0)
    → Searches first to from 1 mark₀ queue mark queue' n → Marks first to from mark
ones {first} {to} {mark₀} {mark = mark} m z s =
    let p = s.stamps (record { markable = m; fresh = λ v l h. omega (arith, z v) }) in
    record {
      sound = λ v h. by_cases (dec_lt v (vertices first)) (λ l. p.sound v l h) (λ l. absurd (omega (arith, p.behind v (omega (arith, l)), z v)));
      complete = p.complete;
      else_zero = λ v. by_cases (ℕ_discrete (get_or mark v 0) 1) (λ e. omega arith) (λ e. omega (arith, p.others v e, z v));
    }

-- the first entries were lent on, and came back with the marks, and with zeros
module _ {first to mark queue : List ℕ} {from : ℕ} (m : Markable first to from mark queue) where
  pub markable_front : Markable first to from (take (vertices first) mark) (take (vertices first) queue)
  markable_front =
      record {
        graph = m.graph;
        source = m.source;
        mark_room = omega (arith, length-take-le (vertices first) mark m.mark_room);
        queue_room = omega (arith, length-take-le (vertices first) queue m.queue_room);
      }

  pub marked_all :
      {marks zeros : List ℕ} → length marks ≡ length (take (vertices first) mark) → Marks first to from marks × (zeros ≡ replicate (length (take (vertices first) queue)) 0)
      → MarkedAll first to from (lent mark queue) (lent (marks ++ drop (vertices first) mark) (zeros ++ drop (vertices first) queue))
  marked_all {marks} {zeros} e h =
      let n = vertices first in
      let long : length marks ≡ n = e ∙ length-take-le n mark m.mark_room in
      let front : take n (marks ++ drop n mark) ≡ marks = take_at marks (drop n mark) n long in
      record {
        markable = m;
        marks = rw front h.0;
        mark_rest = drop_at marks (drop n mark) n long;
        queue_is = clear_before 0 n queue zeros m.queue_room h.1;
      }

-- What the search leaves is ready for what comes after it; and what was lent on, said of the whole: the first entries of the column and of
-- scratch come back.
use mathlib.Core.Path.{◌≡◌, refl, sym, ap, ◌∙◌}
use mathlib.Core.Logic.{inl, inr}
use mathlib.Core.List.{List, [], ◌++◌}
use Prim.Native.Nat.{ℕ, ◌≤◌, ◌<◌}
use native.Mathlib.Omega.{arith}
use Rattle.std.specs.Prelude.{Option, Some, None, Ok}
use lib.ListN.{length, get_or, take, drop, take-append-drop, get_or-append}
use lib.Seq.{length-take-le, drop_at}
use Rattle.columns.proofs.Laws.{clear_before}
use Rattle.graph.specs.Graph.{vertices, Graph}
use Rattle.graph.proofs.Arcs.{arc_source, arc_target}
use Rattle.cycles.specs.State.{state, needed}
use Rattle.cycles.specs.Component.{Finished}
use Rattle.cycles.specs.Search.{Ready}
use Rattle.cycles.specs.Answer.{Least, Acyclic, Replies, cycle_at, no_cycle, Lent, lent, Used, Zeros, Ordered, Groups, Numbered, Found, OrderIf, CycleAnswers, OrderAnswers}

pub ready_after : {first to s s' : List ℕ} → Ready first to s → length s' ≡ length s → Ready first to s'
ready_after r e = record { graph = r.graph; room = e ∙ r.room }

pub numbered : {first to s : List ℕ} (group : List ℕ) → Ready first to s → Finished first to (state s) → length group ≡ vertices first → Numbered group s (vertices first)
numbered group r F e =
    let C = F.components in
    record {
      small = r.graph.small;
      group_room = omega arith;
      scratch_room = omega (arith, r.room);
      closed = F.closed;
      low = λ v h. let k = F.closed v h in omega (arith, C.starts v h k, C.place_low v h k);
    }

pub ready : {first to : List ℕ} (s : List ℕ) → Graph first to → needed (vertices first) ≤ length s → Ready first to (take (needed (vertices first)) s)
ready {first} s g h = record { graph = g; room = length-take-le (needed (vertices first)) s h }

pub replies_cycle : {first to : List ℕ} {v : ℕ} → Least first to v → Replies first to (cycle_at v)
replies_cycle l = record { cycle = λ _. l; none = λ e. absurd (omega arith); either = inr refl }

pub replies_none : {first to : List ℕ} → Acyclic first to → Replies first to no_cycle
replies_none a = record { cycle = λ e. absurd (omega arith); none = λ _. a; either = inl refl }

module _ {first to : List ℕ} (g : Graph first to) {s z : List ℕ} (h : needed (vertices first) ≤ length s) (q : Zeros (take (needed (vertices first)) s) z) where
  -- no column
  pub used_scratch : Used first to 0 (lent [] s) (lent [] (z ++ drop (needed (vertices first)) s))
  used_scratch =
      record {
        graph = g;
        column_room = omega arith;
        scratch_room = h;
        column_rest = refl;
        scratch_is = clear_before 0 (needed (vertices first)) s z h q;
      }

  pub used : (column front : List ℕ) → vertices first ≤ length column → length front ≡ length (take (vertices first) column) → Used first to (vertices first)
      (lent column s) (lent (front ++ drop (vertices first) column) (z ++ drop (needed (vertices first)) s))
  used column front l e =
      record {
        graph = g;
        column_room = l;
        scratch_room = h;
        column_rest = drop_at front (drop (vertices first) column) (vertices first) (e ∙ length-take-le (vertices first) column l);
        scratch_is = clear_before 0 (needed (vertices first)) s z h q;
      }

-- the first entries came back as they were
pub kept_front : (n : ℕ) (column front : List ℕ) → front ≡ take n column → front ++ drop n column ≡ column
kept_front n column front e = ap (λ (x : List ℕ). x ++ drop n column) e ∙ take-append-drop n column

-- what is said of the first entries holds of the column
front_at : (front rest : List ℕ) {n : ℕ} → length front ≡ n → (k : ℕ) → k < n → get_or (front ++ rest) k 0 ≡ get_or front k 0
front_at front rest e k l = get_or-append front rest 0 k (omega arith)

module _ {first to : List ℕ} (front rest : List ℕ) (e : length front ≡ vertices first) where
  pub ordered_front : Ordered first to front → Ordered first to (front ++ rest)
  ordered_front o =
      record {
        low = λ k l. rw (front_at front rest e k l) (o.low k l);
        all = λ v l. let y = o.all v l in (y.0, y.1, front_at front rest e y.0 y.1 ∙ y.2);
        once = λ j k l h q. o.once j k l h (sym (front_at front rest e j l) ∙ q ∙ front_at front rest e k h);
        after = λ j k l h a. o.after j k l h (rw (front_at front rest e j l, front_at front rest e k h) at a);
      }

  pub groups_front : Graph first to → Groups first to front → Groups first to (front ++ rest)
  groups_front g o =
      record {
        low = λ v l. rw (front_at front rest e v l) (o.low v l);
        same = λ v w l h q. o.same v w l h (sym (front_at front rest e v l) ∙ q ∙ front_at front rest e w h);
        mutual_same = λ v w l h a b. front_at front rest e v l ∙ o.mutual_same v w l h a b ∙ sym (front_at front rest e w h);
        falls =
            λ v w a.
            let l : v < vertices first = omega (arith, arc_source a) in
            let h : w < vertices first = omega (arith, arc_target g a) in
            rw (front_at front rest e v l, front_at front rest e w h) (o.falls v w a);
      }

-- ---- the answers, by what was found
module _ {first to : List ℕ} {was is : Lent} where
  pub replied : (r : Option ℕ) → Found first to r → Used first to 0 was is → CycleAnswers first to was is (Ok r)
  replied (Some v) f u = record { used = u; replies = replies_cycle f }
  replied None f u = record { used = u; replies = replies_none f }

  pub order_replied : {order order' : List ℕ} (r : Option ℕ) → Found first to r → Used first to (vertices first) was is → OrderIf first to order order' r
      → (order' ≡ order → is.column ≡ was.column) → (Ordered first to order' → Ordered first to is.column) → OrderAnswers first to was is (Ok r)
  order_replied (Some v) f u o k h = record { used = u; replies = replies_cycle f; kept = k o }
  order_replied None f u o k h = record { used = u; replies = replies_none f; ordered = h o }

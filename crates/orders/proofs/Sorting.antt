-- What the front of a column and of scratch comes back with, said of the whole; and the search after places that are no order.
use mathlib.Core.Path.{◌≡◌, refl, sym, ap, ◌∙◌}
use mathlib.Core.Logic.{◌⊎◌, inl, inr}
use mathlib.Core.Bool.{Bool, true, false, false≢true}
use mathlib.Core.List.{List, ◌++◌}
use Rattle.columns.specs.Column.{cleared_before}
use Prim.Native.Nat.{ℕ, ◌≤◌}
use native.Mathlib.Omega.{arith}
use lib.ListN.{length, take, drop, replicate, length-append, length-replicate}
use lib.Seq.{length-take-le, drop_at}
use Rattle.graph.specs.Graph.{vertices, Graph}
use Rattle.cycles.specs.State.{needed}
use Rattle.cycles.specs.Answer.{Lent, lent, Used, OrderAnswers}
use Rattle.cycles.specs.declared.GraphError.{GraphError}
use Rattle.cycles.specs.declared.GraphError.TheVariants.{Malformed, ColumnShort, ScratchShort}
use Rattle.std.specs.Prelude.{Option, Some, None, Result, Ok, Err}
use Rattle.cycles.proofs.Use.{used, kept_front, ordered_front, replies_none}
use Rattle.orders.specs.Places.{SortsIn, Cleared, Sorts}

module _ {first to : List ℕ} (g : Graph first to) (column scratch front z : List ℕ) (l : vertices first ≤ length column) (h : needed (vertices first) ≤ length scratch)
    (e : length front ≡ length (take (vertices first) column)) where
  pub sorts : (b : Bool) → SortsIn first to (take (vertices first) column) (take (needed (vertices first)) scratch) b front z
      → Sorts first to (lent column scratch) (lent (front ++ drop (vertices first) column) (z ++ drop (needed (vertices first)) scratch)) b
  sorts true S =
      let k = length-take-le (vertices first) column l in
      let s = S.sorted refl k in
      record {
        used = used g h S.zeros column front l e;
        replies = replies_none s.1;
        ordered = ordered_front front (drop (vertices first) column) (e ∙ k) s.0;
      }
  sorts false S = (
    kept_front (vertices first) column front (S.kept refl),
    inr (record {
      graph = g;
      column_room = l;
      scratch_room = h;
      scratch_is = (used g h S.zeros column front l e).scratch_is;
    }),
  )

-- ---- the search after that
cleared_twice : (k : ℕ) (s : List ℕ) → cleared_before 0 k (cleared_before 0 k s) ≡ cleared_before 0 k s
cleared_twice k s = ap (λ (r : List ℕ). replicate k 0 ++ r) (drop_at (replicate k 0) (drop k s) k (length-replicate k 0))

pub sorted : {first to : List ℕ} (was is : Lent) (b : Bool) → b ≡ true → Sorts first to was is b → OrderAnswers first to was is (Ok None)
sorted was is true e s = s
sorted was is false e s = absurd (false≢true e)

module _ {first to : List ℕ} (column scratch : List ℕ) (mid is : Lent) (q : mid.column ≡ column) where
  used_after : {n : ℕ} → Cleared first to (lent column scratch) mid → Used first to n mid is → Used first to n (lent column scratch) is
  used_after {n} c u =
      record {
        graph = u.graph;
        column_room = rw q at u.column_room;
        scratch_room = c.scratch_room;
        column_rest = u.column_rest ∙ ap (λ (x : List ℕ). drop n x) q;
        scratch_is = u.scratch_is ∙ ap (cleared_before 0 (needed (vertices first))) c.scratch_is ∙ cleared_twice (needed (vertices first)) scratch;
      }

  after_cleared : (r : Result (Option ℕ) GraphError) → Cleared first to (lent column scratch) mid → OrderAnswers first to mid is r → OrderAnswers first to (lent column scratch) is r
  after_cleared (Ok None) c a = record { used = used_after c a.used; replies = a.replies; ordered = a.ordered }
  after_cleared (Ok (Some v)) c a = record { used = used_after c a.used; replies = a.replies; kept = a.kept ∙ q }
  after_cleared (Err Malformed) c a = absurd (a.no c.graph)
  after_cleared (Err (ColumnShort k)) c a = absurd (omega (arith, a.short, a.needs, ap length q, c.column_room))
  after_cleared (Err (ScratchShort k)) c a =
      absurd
      (omega (
        arith,
        a.short,
        a.needs,
        ap length c.scratch_is,
        length-append (replicate (needed (vertices first)) 0) (drop (needed (vertices first)) scratch),
        length-replicate {A = ℕ} (needed (vertices first)) 0,
      ))

module _ (first to column scratch : List ℕ) (mid is : Lent) (r : Result (Option ℕ) GraphError) (a : OrderAnswers first to mid is r) where
  pub after_sort : (b : Bool) → b ≡ false → Sorts first to (lent column scratch) mid b → OrderAnswers first to (lent column scratch) is r
  after_sort true e s = absurd (false≢true (sym e))
  after_sort false e s = by s.1
    where
      by : (mid.scratch ≡ scratch) ⊎ Cleared first to (lent column scratch) mid → OrderAnswers first to (lent column scratch) is r
      by (inl z) = let m : mid ≡ lent column scratch = rw (s.0, z) in rw m at a
      by (inr c) = after_cleared column scratch mid is s.0 r c a

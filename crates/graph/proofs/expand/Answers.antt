-- `graph::expand` meets its contract. Assumes nothing.
use Rattle.graph.proofs.Mark.{going_start, going_step, going_end, expands_none, stamps_room}
use Prim.Native.Nat.{ℕ}
use mathlib.Core.Logic.{inl, inr}
use mathlib.Core.Path.{sym, ◌∙◌, ap}
use native.Mathlib.Omega.{arith}
use lib.ListN.{set}
use Rattle.graph.proofs.expand.Goals.{then-is_unstamped, else-is_unstamped}
use Rattle.graph.proofs.expand.Goals as goal

pub returns-then-first-u : goal.returns-then-first-u
returns-then-first-u c = expands_none c.requires c.if-first-u.true

pub loop-e-init : goal.loop-e-init
loop-e-init c = going_start c.requires (c.index-start.ensures ∙ c.get_or.ensures) (c.index-end.ensures ∙ c.get_or-2.ensures)

pub overflow_add-t : goal.overflow_add-t
overflow_add-t c = omega (
  arith,
  stamps_room c.args.stamp c.loop-e.mark c.index-w.result c.loop-e.invariant.ends (sym
      c.is_unstamped.ensures ∙ c.if-is_unstamped.true),
  c.loop-e.invariant.mark_long,
)

pub loop-e-preserved : goal.loop-e-preserved
loop-e-preserved c = going_step c.loop-e.invariant c.loop-e-test.true c.index-w.result (c.index-w.ensures ∙ c.get_or-target.ensures) c.if-is_unstamped.mark c.if-is_unstamped.queue c.if-is_unstamped.t
    (elim c.if-is_unstamped.branch [
      | then-is_unstamped w ↦ inl (
        sym c.is_unstamped.ensures ∙ w.if-is_unstamped.true,
        w.mark-is ∙ w.put.ensures,
        w.queue-is ∙ w.put-then-is_unstamped.ensures ∙ ap (λ (x : ℕ). set c.loop-e.queue c.loop-e.t x) (sym c.index-w.ensures),
        w.t-is,
      )
      | else-is_unstamped w ↦ inr (sym c.is_unstamped.ensures ∙ w.if-is_unstamped.false, w.mark-is, w.queue-is, w.t-is)
    ])

pub shape_of-mark : goal.shape_of-mark
shape_of-mark c = c.loop-e.invariant.mark_long

pub shape_of-queue : goal.shape_of-queue
shape_of-queue c = c.loop-e.invariant.queue_long

pub returns : goal.returns
returns c = going_end c.loop-e.invariant c.loop-e-test.false

-- `marking::reachable` meets its contract: what is no graph with a source and room is refused, else the first entries are lent on to `spread`. Assumes nothing.
use Rattle.std.specs.Prelude.{List, ℕ, ◌≡◌, ◌≤◌, ◌<◌, length, min}
use Rattle.graph.specs.Graph.{Graph, vertices}
use Rattle.graph.proofs.Mark.{markable_front, marked_all}
use Rattle.graph.specs.Mark.{Markable}
use mathlib.Core.Path.{refl, sym}
use lib.Seq.{length-take-le}
use native.Mathlib.Omega.{arith}
use Rattle.marking.proofs.reachable.Goals as goal

room : {first to mark queue : List ℕ} {from least : ℕ} → Graph first to → from < vertices first → least ≡ min (length mark) (length queue) → vertices first ≤ least
    → Markable first to from mark queue
room g l e h = record { graph = g; source = l; mark_room = omega (arith, e, h); queue_room = omega (arith, e, h) }

pub returns-then-not-valid : goal.returns-then-not-valid
returns-then-not-valid c = record { no = λ g l. c.valid.ensures.no c.if-not-valid.true g; kept = refl }

pub overflow_sub-n : goal.overflow_sub-n
overflow_sub-n c = let g = c.valid.ensures.yes c.if-not-valid.false in omega (arith, g.some)

pub returns-then-n-from : goal.returns-then-n-from
returns-then-n-from c = record { no = λ g l. omega (arith, l, c.if-n-from.true); kept = refl }

pub returns-then-min-n : goal.returns-then-min-n
returns-then-min-n c = record {
  graph = c.valid.ensures.yes c.if-not-valid.false;
  source = omega (
    arith,
    c.if-n-from.false,
  );
  short = omega (arith, c.min.ensures, c.if-min-n.true);
  needs = refl;
  kept = refl;
}

pub slice_bounds-spread-end : goal.slice_bounds-spread-end
slice_bounds-spread-end c = omega (arith, c.min.ensures, c.if-min-n.false)

pub slice_bounds-spread-end-2 : goal.slice_bounds-spread-end-2
slice_bounds-spread-end-2 c = sym (length-take-le _ c.args.mark.now (room (c.valid.ensures.yes c.if-not-valid.false) c.if-n-from.false c.min.ensures c.if-min-n.false).mark_room)

pub slice_bounds-spread-end-3 : goal.slice_bounds-spread-end-3
slice_bounds-spread-end-3 c = omega (arith, c.min.ensures, c.if-min-n.false)

pub slice_bounds-spread-end-4 : goal.slice_bounds-spread-end-4
slice_bounds-spread-end-4 c = sym (length-take-le _ c.args.queue.now (room (c.valid.ensures.yes c.if-not-valid.false) c.if-n-from.false c.min.ensures c.if-min-n.false).queue_room)

pub spread-requires : goal.spread-requires
spread-requires c = markable_front (room (c.valid.ensures.yes c.if-not-valid.false) c.if-n-from.false c.min.ensures c.if-min-n.false)

pub returns : goal.returns
returns c = marked_all (room (c.valid.ensures.yes c.if-not-valid.false) c.if-n-from.false c.min.ensures c.if-min-n.false) c.spread.auto.mark
    c.spread.ensures

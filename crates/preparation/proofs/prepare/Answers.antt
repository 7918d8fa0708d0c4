-- `preparation::prepare` meets its contract: by the laws of `Preparing`: what is refused is left as it was, and there is room for what is built. Assumes nothing.
use mathlib.Core.Bool.{not}
use mathlib.Core.Path.{ap}
use Rattle.preparation.proofs.Preparing.{refused_columns, refused_room, total_small, prefix_fits, prefix_long, prepares}
use native.Mathlib.Omega.{arith}
use Rattle.preparation.proofs.prepare.Goals as goal

pub returns-then-not-consistent : goal.returns-then-not-consistent
returns-then-not-consistent c = refused_columns c.args.keys.now c.args.nodes.now c.args.heads.now c.args.next.now c.consistent.ensures (ap not c.if-not-consistent.true)

pub overflow_add-entries : goal.overflow_add-entries
overflow_add-entries c = let ok = c.consistent.ensures.yes c.if-not-consistent.false in omega (
  arith,
  total_small (c.count_entries-counts.ensures.is ok.few _ _) ok,
)

pub returns-then-not-room : goal.returns-then-not-room
returns-then-not-room c = let ok = c.consistent.ensures.yes c.if-not-consistent.false in refused_room c.args.keys.now c.args.nodes.now c.args.heads.now c.args.next.now (c.count_entries-counts.ensures.is ok.few _ _) c.room.ensures (ap not c.if-not-room.true)

pub fill-requires : goal.fill-requires
fill-requires c = let ok = c.consistent.ensures.yes c.if-not-consistent.false in record { consistent = ok; counted = c.count_entries-counts.ensures.is ok.few _ _ }

pub slice_bounds-build-end : goal.slice_bounds-build-end
slice_bounds-build-end c = let ok = c.consistent.ensures.yes c.if-not-consistent.false in prefix_fits c.args.keys.now c.args.nodes.now c.args.heads.now c.args.next.now (c.count_entries-counts.ensures.is ok.few _ _) (c.room.ensures.yes c.if-not-room.false) c.fill.ensures.filled

pub slice_bounds-build-end-2 : goal.slice_bounds-build-end-2
slice_bounds-build-end-2 c = let ok = c.consistent.ensures.yes c.if-not-consistent.false in prefix_long c.args.keys.now c.args.nodes.now c.args.heads.now c.args.next.now (c.count_entries-counts.ensures.is ok.few _ _) (c.room.ensures.yes c.if-not-room.false) c.fill.ensures.filled

pub returns : goal.returns
returns c = let ok = c.consistent.ensures.yes c.if-not-consistent.false in prepares c.args.keys.now c.args.nodes.now c.args.heads.now c.args.next.now
    (c.count_entries-counts.ensures.is ok.few _ _) (c.room.ensures.yes c.if-not-room.false) c.fill.ensures.filled ok c.fill.ensures.filled_2
    c.build.ensures
